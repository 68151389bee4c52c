-- Open without them: the loop's start and next turn, and its two ends. The laws take the invariant, and speak of labels by their place.
use Rattle.std.proofs.Common.{arith, ◌∙◌, ap}
use Rattle.std.specs.Prelude.{min}
use Rattle.labels.proofs.Count.{count_start, count_more, count_full, count_end}
use Rattle.labels.proofs.Places.{distinct_there}
use Rattle.labels.proofs.distinct_up_to.Goals as goal

pub loop-i-init : goal.loop-i-init
loop-i-init c = count_start

pub loop-i-preserved : goal.loop-i-preserved
loop-i-preserved c =
    count_more _ _ c.loop-i.invariant (omega arith) c.loop-i.auto.i c.if-count-most.false c.new_at-count.ensures.value c.new_at-count.ensures.most

pub returns-after-loop-i : goal.returns-after-loop-i
returns-after-loop-i c =
    count_end c.loop-i.invariant (omega arith) ∙ ap (min c.args.most) (distinct_there c.args.domain c.args.nodes.now c.label_place-place.ensures)

pub returns-then-count-most : goal.returns-then-count-most
returns-then-count-most c =
    count_full c.loop-i.invariant c.if-count-most.true ∙ ap (min c.args.most) (distinct_there c.args.domain c.args.nodes.now c.label_place-place.ensures)
