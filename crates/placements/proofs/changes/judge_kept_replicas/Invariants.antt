use Rattle.metadata.specs.Placements.{kept_replica, judge_kept}
use Rattle.metadata.proofs.Each.{EachFrom}
use Rattle.placements.proofs.changes.judge_kept_replicas.Given as goal

abbrev pub invariant-loop-r : goal.invariant-loop-r
invariant-loop-r l = EachFrom (λ r. judge_kept r (kept_replica r.replica_id.0 l.old)) l.new l.r-index
