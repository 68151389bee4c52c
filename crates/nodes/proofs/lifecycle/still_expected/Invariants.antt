use Rattle.metadata.proofs.Each.{EachFrom}
use Rattle.nodes.specs.Steps.{expected_of}
use Rattle.nodes.proofs.lifecycle.still_expected.Given as goal
use Rattle.rows.specs.Rows.{tablet_row, placement_rows}

abbrev pub invariant-loop-t : goal.invariant-loop-t
invariant-loop-t l = EachFrom (λ t. expected_of l.k (placement_rows l.placements) (tablet_row t)) l.tablets l.t-index
