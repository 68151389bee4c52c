-- Open without them: the next turn, and each way out of the walk, by the law of what stands at the place.
use Rattle.vectors_owned.proofs.Entering.{enter_next, enter_end, enter_unknown, enter_cut}
use Rattle.vectors_owned.proofs.enter_each.Goals as goal

pub loop-b-preserved : goal.loop-b-preserved
loop-b-preserved g c =
    enter_next _ _ _ _ _ _ c.loop-b.invariant _ c.next_at.ensures _ _ _ _ _ _ _ c.in-Whole.is c.read_command.ensures c.enter-answered.ensures c.in_ok-print_line-in-Whole.ensures

pub returns-in-Unknown : goal.returns-in-Unknown
returns-in-Unknown g c = enter_unknown _ _ _ _ _ _ c.loop-b.invariant _ c.next_at.ensures _ _ _ c.in-Unknown.is c.in_ok-print_line-in-Unknown.ensures

pub returns-in-Cut : goal.returns-in-Cut
returns-in-Cut g c = enter_cut _ _ _ _ _ _ c.loop-b.invariant _ c.next_at.ensures _ _ _ c.in-Cut.is c.in_ok-print_line-in-Cut.ensures

pub returns-in-End : goal.returns-in-End
returns-in-End g c = enter_end _ _ _ _ _ _ c.loop-b.invariant _ c.next_at.ensures c.in-End.is
