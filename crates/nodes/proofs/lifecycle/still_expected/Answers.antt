-- Open without it: the way out by `?`, where a tablet expects the node.
use Rattle.metadata.proofs.Each.{each_refuses}
use Rattle.nodes.proofs.Expected.{by_tablet}
use Rattle.nodes.proofs.lifecycle.still_expected.Goals as goal
use Rattle.rows.specs.Rows.{placement_rows}

pub returns-in_err-expected_of : goal.returns-in_err-expected_of
returns-in_err-expected_of c =
    rw (by_tablet c.args.k c.args.tablets.now (placement_rows c.args.placements.now))
    (each_refuses _ c.from_residual.result c.in_err-expected_of.field-0.0 c.loop-t.invariant c.loop-t-test.true c.in_err-expected_of.ensures c.from_residual.ensures)
