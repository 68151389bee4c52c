-- Open without them: the way out by `?`, where a row refuses, and the end. The laws take the loop's invariant as an argument.
use Rattle.std.proofs.Common.{arith}
use Rattle.metadata.specs.Tablets.{overlap_at, judge_range}
use Rattle.rows.specs.Rows.{tablet_row}
use Rattle.tablets.proofs.Refused.{row_refuses, each_row_end}
use Rattle.tablets.proofs.judge_range.Goals as goal

pub returns-in_err-overlap_at : goal.returns-in_err-overlap_at
unfolding judge_range
returns-in_err-overlap_at c =
    row_refuses (overlap_at c.args.t.now) tablet_row _ c.from_residual.result c.in_err-overlap_at.field-0.0 c.loop-old.invariant c.loop-old-test.true c.in_err-overlap_at.ensures
    c.from_residual.ensures

pub returns : goal.returns
unfolding judge_range
returns c = each_row_end (overlap_at c.args.t.now) tablet_row c.loop-old.invariant (omega arith)
