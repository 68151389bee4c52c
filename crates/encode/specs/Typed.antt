-- What is known of a record by its type: each number fits in its bytes, and each field has its width. Assumes nothing.
use Rattle.std.specs.Prelude.{◌≡◌, ◌^◌, ◌<◌, length}
use Rattle.laws.specs.Lists.{All}
use Rattle.metadata.specs.Rooms.{name_width, label_width, key_width, replica_room}
use Rattle.metadata.specs.declared.NodeDescriptor.{NodeDescriptor}
use Rattle.metadata.specs.declared.NodeId.{NodeId}
use Rattle.metadata.specs.declared.TabletDescriptor.{TabletDescriptor}
use Rattle.metadata.specs.declared.DesiredReplica.{DesiredReplica}
use Rattle.metadata.specs.declared.DesiredReplicaPlacement.{DesiredReplicaPlacement}
use Rattle.metadata.specs.declared.RetiredReplicaLifetime.{RetiredReplicaLifetime}
use Rattle.metadata.specs.declared.TableRow.{TableRow}
use Rattle.metadata.specs.declared.MetadataAllocatorState.{MetadataAllocatorState}

pub record TypedTable (t : TableRow) : Type 0 where
  pub table_id : t.table_id.0 < 2 ^ 64
  pub tablet_count : t.tablet_count < 2 ^ 32

pub record TypedNode (n : NodeDescriptor) : Type 0 where
  pub node_id : n.node_id.0 < 2 ^ 64
  pub raft_addr : length n.raft_addr.bytes ≡ name_width
  pub snapshot_addr : length n.snapshot_addr.bytes ≡ name_width
  pub sql_addr : length n.sql_addr.bytes ≡ name_width
  pub admin_addr : length n.admin_addr.bytes ≡ name_width
  pub region : length n.region.text.bytes ≡ label_width
  pub zone : length n.zone.text.bytes ≡ label_width
  pub rack : length n.rack.text.bytes ≡ label_width
  pub storage_class : length n.storage_class.bytes ≡ label_width

pub record TypedTablet (t : TabletDescriptor) : Type 0 where
  pub tablet_id : t.tablet_id.0 < 2 ^ 64
  pub table_id : t.table_id.0 < 2 ^ 64
  pub raft_group_id : t.raft_group_id.0 < 2 ^ 64
  pub tablet_epoch : t.tablet_epoch < 2 ^ 64
  pub bucket : t.partition.bucket < 2 ^ 32
  pub bucket_count : t.partition.bucket_count < 2 ^ 32
  pub start_key : length t.partition.start_key.bytes ≡ key_width
  pub end_key : length t.partition.end_key.bytes ≡ key_width

pub record TypedReplica (r : DesiredReplica) : Type 0 where
  pub replica_id : r.replica_id.0 < 2 ^ 64
  pub node_id : r.node_id.0 < 2 ^ 64

abbrev pub TypedId : NodeId → Type 0
TypedId n = n.0 < 2 ^ 64

pub record TypedPlacement (p : DesiredReplicaPlacement) : Type 0 where
  pub tablet_id : p.tablet_id.0 < 2 ^ 64
  pub configuration_epoch : p.configuration_epoch < 2 ^ 64
  pub room : length p.replicas ≡ replica_room
  pub replicas : All TypedReplica p.replicas
  pub replication_factor : p.placement_policy.replication_factor < 2 ^ 32
  pub min_distinct_regions : p.placement_policy.min_distinct_regions < 2 ^ 32
  pub min_distinct_zones : p.placement_policy.min_distinct_zones < 2 ^ 32
  pub min_distinct_racks : p.placement_policy.min_distinct_racks < 2 ^ 32
  pub required_storage_class : length p.placement_policy.required_storage_class.text.bytes ≡ label_width
  pub leader_room : length p.placement_policy.preferred_leader_nodes ≡ replica_room
  pub preferred_leader_nodes : All TypedId p.placement_policy.preferred_leader_nodes

pub record TypedRetirement (r : RetiredReplicaLifetime) : Type 0 where
  pub raft_group_id : r.raft_group_id.0 < 2 ^ 64
  pub replica_id : r.replica_id.0 < 2 ^ 64
  pub desired_configuration_epoch : r.desired_configuration_epoch < 2 ^ 64
  pub removed_conf_state_version : r.removed_conf_state_version < 2 ^ 64
  pub removal_index : r.removal_index < 2 ^ 64
  pub removal_term : r.removal_term < 2 ^ 64

pub record TypedMarks (m : MetadataAllocatorState) : Type 0 where
  pub max_table_id : m.max_table_id < 2 ^ 64
  pub max_tablet_id : m.max_tablet_id < 2 ^ 64
  pub max_raft_group_id : m.max_raft_group_id < 2 ^ 64
  pub max_replica_id : m.max_replica_id < 2 ^ 64
