-- Who expects a node, asked of each tablet's row in turn. Assumes nothing.
use Rattle.std.specs.Prelude.{◌≡◌, ℕ, List}
use Rattle.std.proofs.Common.{sym}
use Rattle.metadata.proofs.Each.{each_map}
use Rattle.metadata.specs.Answers.{each}
use Rattle.metadata.specs.Nodes.{still_expected}
use Rattle.metadata.specs.declared.DesiredReplicaPlacement.{DesiredReplicaPlacement}
use Rattle.metadata.specs.declared.NodeId.{NodeId}
use Rattle.nodes.specs.Steps.{expected_of}
use Rattle.rows.specs.Rows.{tablet_row, tablet_rows}

pub by_tablet : (k : NodeId) (rows : List (List ℕ)) (placements : List DesiredReplicaPlacement)
    → still_expected k (tablet_rows rows) placements ≡ each (λ t. expected_of k placements (tablet_row t)) rows
unfolding still_expected expected_of
by_tablet k rows placements = sym (each_map (expected_of k placements) tablet_row rows)
