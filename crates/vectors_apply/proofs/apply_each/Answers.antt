-- Open without them: the next turn, and each way out of the walk, by the law of what stands at the place.
use Rattle.std.proofs.Common.{refl}
use Rattle.std.proofs.lemmas.List.{take_rest}
use Rattle.vectors_apply.proofs.Applying.{apply_next, apply_end, apply_unknown, apply_cut}
use Rattle.vectors_apply.proofs.apply_each.Goals as goal

pub loop-next-preserved : goal.loop-next-preserved
loop-next-preserved g c = apply_next _ _ _ _ _ _ c.loop-next.invariant _ c.next_at.ensures _ _ _ _ _ c.in-Whole.is refl c.in_ok-apply_one-in-Whole.ensures

pub returns-in-Unknown : goal.returns-in-Unknown
returns-in-Unknown g c = apply_unknown _ _ _ _ _ _ c.loop-next.invariant _ c.next_at.ensures _ _ _ _ _ c.in-Unknown.is (take_rest c.args.tape.now c.loop-next.at) c.apply_one-in-Unknown.ensures

pub returns-in-Cut : goal.returns-in-Cut
returns-in-Cut g c = apply_cut _ _ _ _ _ _ c.loop-next.invariant _ c.next_at.ensures _ _ _ _ _ c.in-Cut.is (take_rest c.args.tape.now c.loop-next.at) c.apply_one-in-Cut.ensures

pub returns-in-End : goal.returns-in-End
returns-in-End g c = apply_end _ _ _ _ _ _ c.loop-next.invariant _ c.next_at.ensures c.in-End.is
