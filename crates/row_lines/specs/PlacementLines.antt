-- The line of a placement. Assumes nothing.
use Rattle.std.specs.Prelude.{ℕ, List, ◌++◌, codes}
use Rattle.std.specs.List.{flat_map}
use Rattle.lines.specs.Lines.{number_text}
use Rattle.row_lines.specs.Pieces.{line_end, number, three_numbers, optional_field}
use Rattle.metadata.specs.Tables.{desired, leaders}
use Rattle.metadata.specs.declared.NodeId.{NodeId}
use Rattle.metadata.specs.declared.DesiredReplica.{DesiredReplica}
use Rattle.metadata.specs.declared.PlacementPolicy.{PlacementPolicy}
use Rattle.metadata.specs.declared.DesiredReplicaPlacement.{DesiredReplicaPlacement}

-- R:N:ROLE, a space before it
unfoldable pub replica_text : DesiredReplica → List ℕ
replica_text r = number r.replica_id.0 ++ codes ":" ++ number_text r.node_id.0 ++ codes ":" ++ number_text r.role

-- a node by its id: " 17"
abbrev pub node_number : NodeId → List ℕ
node_number n = number n.0

-- factor F minima A B C
unfoldable pub minima_text : PlacementPolicy → List ℕ
minima_text q =
    codes " factor"
    ++ number q.replication_factor
    ++ codes " minima"
    ++ three_numbers q.min_distinct_regions q.min_distinct_zones q.min_distinct_racks

-- factor F minima A B C class T leaders
unfoldable pub policy_text : PlacementPolicy → List ℕ
policy_text q = minima_text q ++ codes " class" ++ optional_field q.required_storage_class ++ codes " leaders"

-- placement TABLET EPOCH replicas R:N:ROLE ..: the used places
unfoldable pub replicas_text : DesiredReplicaPlacement → List ℕ
replicas_text p =
    codes "placement"
    ++ number p.tablet_id.0
    ++ number p.configuration_epoch
    ++ codes " replicas"
    ++ flat_map replica_text (desired p)

-- N ..: the used places
unfoldable pub leaders_text : PlacementPolicy → List ℕ
leaders_text q = flat_map node_number (leaders q)

-- placement TABLET EPOCH replicas R:N:ROLE .. factor F minima A B C class T leaders N ..
unfoldable pub placement_line : DesiredReplicaPlacement → List ℕ
placement_line p = replicas_text p ++ policy_text p.placement_policy ++ leaders_text p.placement_policy ++ line_end
