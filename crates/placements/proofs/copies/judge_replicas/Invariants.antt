use Rattle.rows.specs.Rows.{node_row, node_rows, retirement_rows}
use Rattle.metadata.specs.Placements.{judge_replica}
use Rattle.placements.proofs.Hosting.{Hosting, host_of}
use Rattle.placements.proofs.copies.judge_replicas.Given as goal

abbrev pub invariant-loop-r : goal.invariant-loop-r
invariant-loop-r l =
    Hosting
    (judge_replica (node_rows l.nodes) (retirement_rows l.retirements) l.old l.group l.p.placement_policy.required_storage_class)
    (host_of (node_rows l.nodes))
    (λ n. node_row n.now)
    l.r-items
    l.r-index
    l.on
