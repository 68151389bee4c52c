-- Open without them: the next turn and the two ways out. Each law takes the relation `e` that the closure gives, and what the iterator gave, as arguments.
use Rattle.std.proofs.Common.{sym, ◌∙◌}
use Rattle.lists.proofs.Twice.{first_again, first_differs, none_left}
use Rattle.lists.proofs.none_twice.Goals as goal

pub returns-then-passes_with : goal.returns-then-passes_with
returns-then-passes_with g c e by =
    first_again e c.in-Some.ensures.cases (c.passes_with.ensures e by) c.if-passes_with.true ∙ sym (c.loop-x.invariant e by)

pub loop-x-preserved : goal.loop-x-preserved
loop-x-preserved g c e by =
    c.loop-x.invariant e by ∙ first_differs e c.in-Some.ensures.cases (c.passes_with.ensures e by) c.if-passes_with.false

pub returns : goal.returns
returns g c e by = none_left e _ c.in_default.ensures.cases ∙ sym (c.loop-x.invariant e by)
