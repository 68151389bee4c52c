-- Steps of the definitions of metadata that have a function of their own here. Assumes nothing.
use Rattle.std.specs.Prelude.{ℕ, Bool, not, cond, ◌||◌, List, eqb}
use Rattle.metadata.specs.Answers.{◌⊳◌, pass, answer_if, each}
use Rattle.metadata.specs.Lifecycles.{decommissioned, tombstoned}
use Rattle.metadata.specs.Nodes.{lifecycle_can_advance, expected_at, still_expected}
use Rattle.metadata.specs.Tables.{desired, placement_of, same_node, same_node_directory}
use Rattle.metadata.specs.declared.Answer.{Answer}
use Rattle.metadata.specs.declared.Answer.TheVariants as A
use Rattle.metadata.specs.declared.DesiredReplicaPlacement.{DesiredReplicaPlacement}
use Rattle.metadata.specs.declared.NodeDescriptor.{NodeDescriptor}
use Rattle.metadata.specs.declared.NodeId.{NodeId}
use Rattle.metadata.specs.declared.TabletDescriptor.{TabletDescriptor}

-- what still_expected asks of one tablet: the copies of its placement
unfoldable pub expected_of : NodeId → List DesiredReplicaPlacement → TabletDescriptor → Answer
expected_of k placements t = each (expected_at k t) (desired (placement_of t.tablet_id.0 placements))

-- to Decommissioned or to Tombstoned: then no tablet may expect the node
abbrev pub leaves : ℕ → Bool
leaves to = eqb to decommissioned || eqb to tombstoned

-- judge_lifecycle of a node that is known, by its lifecycle
unfoldable pub judge_move : ℕ → List TabletDescriptor → List DesiredReplicaPlacement → NodeId → ℕ → Answer
judge_move from tablets placements k to =
    answer_if (eqb from to) A.AlreadyApplied
    ⊳ answer_if (not (lifecycle_can_advance from to)) (A.InvalidNodeLifecycleTransition k from to)
    ⊳ cond (leaves to) (still_expected k tablets placements) pass

-- judge_known_node, by the node's row
unfoldable pub judge_known_row : NodeDescriptor → List TabletDescriptor → List DesiredReplicaPlacement → NodeDescriptor → Answer
judge_known_row old tablets placements n =
    answer_if (same_node old n) A.AlreadyApplied
    ⊳ answer_if (not (same_node_directory old n)) (A.NodeIdConflict n.node_id)
    ⊳ judge_move old.lifecycle tablets placements n.node_id n.lifecycle
