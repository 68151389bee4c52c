use Rattle.std.specs.Prelude.{◌≡◌, ℕ, drop}
use Rattle.metadata.specs.Marks.{highest}
use Rattle.marks.proofs.highest.Given as goal

abbrev pub invariant-loop-x : goal.invariant-loop-x
invariant-loop-x g l =
    (f : g.row.T.Denot → ℕ) → ((x : _) (r : ℕ) → goal.F-post g l.number x r → r ≡ f x.now) → highest f (drop l.x-index l.rows) l.high ≡ highest f l.fn.rows l.fn.mark
