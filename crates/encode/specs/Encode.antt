-- Records as bytes: the fields one behind the other, in the order and widths of the tape (document 01, "The command tape"). Assumes nothing.
use Rattle.std.specs.Prelude.{ℕ, true, false, cond, List, [], ◌∷◌, ◌++◌, eqb}
use Rattle.std.specs.Int.{w32, w64, to_le_bytes}
use Rattle.std.specs.List.{flat_map}
use Rattle.laws.specs.Bytes.{field_at, number_at, byte_at}
use Rattle.text.specs.declared.Text.{Text}
use Rattle.text.specs.declared.Optional.{Optional}
use Rattle.metadata.specs.Rooms.{name_width}
use Rattle.metadata.specs.Texts.{OptionalName}
use Rattle.metadata.specs.declared.NodeDescriptor.{NodeDescriptor}
use Rattle.metadata.specs.declared.NodeId.{NodeId}
use Rattle.metadata.specs.declared.TabletDescriptor.{TabletDescriptor}
use Rattle.metadata.specs.declared.DesiredReplica.{DesiredReplica}
use Rattle.metadata.specs.declared.DesiredReplicaPlacement.{DesiredReplicaPlacement}
use Rattle.metadata.specs.declared.RetiredReplicaLifetime.{RetiredReplicaLifetime}
use Rattle.metadata.specs.declared.TableRow.{TableRow}
use Rattle.metadata.specs.declared.MetadataAllocatorState.{MetadataAllocatorState}
use Rattle.decode.specs.Decode.{name_at}

module _ {n : ℕ} where
  -- the length, then the full width
  unfoldable pub text_bytes : Text n → List ℕ
  text_bytes t = t.len ∷ t.bytes

  -- "length 255 means absent for labels and required class"
  unfoldable pub optional_bytes : Optional n → List ℕ
  optional_bytes o = cond o.present (text_bytes o.text) (255 ∷ o.text.bytes)

-- ---- a name that may be absent: a name has at least one byte, so length 0 is no name

unfoldable pub name_bytes : OptionalName → List ℕ
name_bytes o = cond o.present (text_bytes o.text) (0 ∷ o.text.bytes)

abbrev pub name_row : List ℕ → OptionalName
name_row l =
    cond (eqb (byte_at l 0) 0)
    (record { present = false; text = record { len = 0; bytes = field_at name_width l 1 } })
    (record { present = true; text = name_at l 0 })

-- ---- rows

unfoldable pub table_bytes : TableRow → List ℕ
table_bytes t = to_le_bytes w64 t.table_id.0 ++ to_le_bytes w32 t.tablet_count

unfoldable pub node_bytes : NodeDescriptor → List ℕ
node_bytes n =
    to_le_bytes w64 n.node_id.0
    ++ text_bytes n.raft_addr
    ++ text_bytes n.snapshot_addr
    ++ text_bytes n.sql_addr
    ++ text_bytes n.admin_addr
    ++ optional_bytes n.region
    ++ optional_bytes n.zone
    ++ optional_bytes n.rack
    ++ text_bytes n.storage_class
    ++ n.lifecycle ∷ []

unfoldable pub tablet_bytes : TabletDescriptor → List ℕ
tablet_bytes t =
    to_le_bytes w64 t.tablet_id.0
    ++ to_le_bytes w64 t.table_id.0
    ++ to_le_bytes w64 t.raft_group_id.0
    ++ to_le_bytes w64 t.tablet_epoch
    ++ t.partition.kind ∷ []
    ++ to_le_bytes w32 t.partition.bucket
    ++ to_le_bytes w32 t.partition.bucket_count
    ++ text_bytes t.partition.start_key
    ++ text_bytes t.partition.end_key

unfoldable pub replica_bytes : DesiredReplica → List ℕ
replica_bytes r = to_le_bytes w64 r.replica_id.0 ++ to_le_bytes w64 r.node_id.0 ++ r.role ∷ []

unfoldable pub node_id_bytes : NodeId → List ℕ
node_id_bytes n = to_le_bytes w64 n.0

unfoldable pub placement_bytes : DesiredReplicaPlacement → List ℕ
placement_bytes p =
    to_le_bytes w64 p.tablet_id.0
    ++ to_le_bytes w64 p.configuration_epoch
    ++ p.replica_count ∷ []
    ++ flat_map replica_bytes p.replicas
    ++ to_le_bytes w32 p.placement_policy.replication_factor
    ++ to_le_bytes w32 p.placement_policy.min_distinct_regions
    ++ to_le_bytes w32 p.placement_policy.min_distinct_zones
    ++ to_le_bytes w32 p.placement_policy.min_distinct_racks
    ++ optional_bytes p.placement_policy.required_storage_class
    ++ p.placement_policy.preferred_leader_count ∷ []
    ++ flat_map node_id_bytes p.placement_policy.preferred_leader_nodes

unfoldable pub retirement_bytes : RetiredReplicaLifetime → List ℕ
retirement_bytes r =
    to_le_bytes w64 r.raft_group_id.0
    ++ to_le_bytes w64 r.replica_id.0
    ++ to_le_bytes w64 r.desired_configuration_epoch
    ++ to_le_bytes w64 r.removed_conf_state_version
    ++ to_le_bytes w64 r.removal_index
    ++ to_le_bytes w64 r.removal_term

-- ---- the four marks: table, tablet, group, replica

unfoldable pub marks_bytes : MetadataAllocatorState → List ℕ
marks_bytes m = to_le_bytes w64 m.max_table_id ++ to_le_bytes w64 m.max_tablet_id ++ to_le_bytes w64 m.max_raft_group_id ++ to_le_bytes w64 m.max_replica_id

abbrev pub marks_at : List ℕ → MetadataAllocatorState
marks_at l =
    record {
      max_table_id = number_at 8 l 0;
      max_tablet_id = number_at 8 l 8;
      max_raft_group_id = number_at 8 l 16;
      max_replica_id = number_at 8 l 24;
    }
