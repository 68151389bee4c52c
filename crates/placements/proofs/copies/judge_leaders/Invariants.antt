use Rattle.rows.specs.Rows.{node_rows}
use Rattle.metadata.specs.Placements.{judge_leader}
use Rattle.metadata.proofs.Each.{EachFrom}
use Rattle.placements.proofs.copies.judge_leaders.Given as goal

abbrev pub invariant-loop-k : goal.invariant-loop-k
invariant-loop-k l = EachFrom (judge_leader (node_rows l.nodes)) l.k-items l.k-index
