-- Open without it: the way out by `?`, where a copy stands on the node.
use Rattle.metadata.proofs.Each.{each_refuses}
use Rattle.nodes.proofs.lifecycle.expected_in.Goals as goal

pub returns-in_err-expected_on : goal.returns-in_err-expected_on
returns-in_err-expected_on c =
    rw (← c.desired-r-items.ensures.value) (each_refuses _ c.from_residual.result c.in_err-expected_on.field-0.0 c.loop-r.invariant c.loop-r-test.true c.in_err-expected_on.ensures c.from_residual.ensures)
