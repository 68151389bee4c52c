-- Those that were passed are held against those after them: what is left decides.
use Rattle.std.proofs.Common.{◌≡◌, Bool, length}
use Rattle.laws.specs.Lists.{none_twice}
use Rattle.lists.proofs.none_twice.Given as goal

abbrev pub invariant-loop-x : goal.invariant-loop-x
invariant-loop-x g l =
    (e : g.row.T.Denot → g.row.T.Denot → Bool) → ((a b : _) (r : Bool) → goal.F-post g l.same a b r → r ≡ e a.now b.now) → none_twice e l.xs ≡ none_twice e l.rest

abbrev pub decreases-loop-x : goal.decreases-loop-x
decreases-loop-x g l = length l.rest
