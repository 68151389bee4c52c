-- Open without them: the next turn of the loop, and the way out by `?` at a replica that is refused. Each takes the invariant and what the replica's check says.
use Rattle.placements.proofs.Hosting.{hosting_next, hosting_refused}
use Rattle.placements.proofs.copies.judge_replicas.Goals as goal

pub loop-r-preserved : goal.loop-r-preserved
loop-r-preserved c =
    rw c.push.ensures (hosting_next c.loop-r.invariant _ _ c.loop-r-test.true c.in_ok-n.ensures.0 c.in_ok-n.ensures.1)

pub returns-in_err-n : goal.returns-in_err-n
returns-in_err-n c =
    hosting_refused c.loop-r.invariant _ _ c.from_residual.result c.in_err-n.field-0.0 c.desired-r-items.ensures.value c.loop-r-test.true c.in_err-n.ensures c.from_residual.ensures
