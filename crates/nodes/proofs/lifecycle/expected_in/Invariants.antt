use Rattle.metadata.proofs.Each.{EachFrom}
use Rattle.metadata.specs.Nodes.{expected_at}
use Rattle.nodes.proofs.lifecycle.expected_in.Given as goal
use Rattle.rows.specs.Rows.{tablet_row}

abbrev pub invariant-loop-r : goal.invariant-loop-r
invariant-loop-r l = EachFrom (expected_at l.k (tablet_row l.t)) l.r-items l.r-index
