-- The rows of each table: their keys, what they list, and when two are the same. Assumes nothing.
use lib.Pointwise.{pointwise}
use Rattle.std.specs.Prelude.{ℕ, Bool, ◌&&◌, List, [], ◌∷◌, eqb, take}
use Rattle.laws.specs.Bytes.{is_zero}
use Rattle.laws.specs.Keyed.{Keyed, by_number, by_pair, row, before}
use Rattle.laws.specs.Rows.{insert_by}
use Rattle.laws.specs.Tests.{all_of}
use Rattle.metadata.specs.Texts.{same_name, same_label, same_key, same_optional, blank_name, blank_label, blank_key, blank_optional, Name}
use Rattle.metadata.specs.declared.NodeId.{NodeId}
use Rattle.metadata.specs.declared.NodeDescriptor.{NodeDescriptor}
use Rattle.metadata.specs.declared.PartitionSpec.{PartitionSpec}
use Rattle.metadata.specs.declared.TabletDescriptor.{TabletDescriptor}
use Rattle.metadata.specs.declared.DesiredReplica.{DesiredReplica}
use Rattle.metadata.specs.declared.PlacementPolicy.{PlacementPolicy}
use Rattle.metadata.specs.declared.DesiredReplicaPlacement.{DesiredReplicaPlacement}
use Rattle.metadata.specs.declared.RetiredReplicaLifetime.{RetiredReplicaLifetime}
use Rattle.metadata.specs.declared.TableRow.{TableRow}

-- ---- keys: rows rise by them
-- the key of each table, a name and a line each

abbrev pub node_key : Keyed NodeDescriptor
node_key = by_number (λ n. n.node_id.0)

abbrev pub table_key : Keyed TableRow
table_key = by_number (λ t. t.table_id.0)

abbrev pub tablet_key : Keyed TabletDescriptor
tablet_key = by_number (λ t. t.tablet_id.0)

abbrev pub placement_key : Keyed DesiredReplicaPlacement
placement_key = by_number (λ p. p.tablet_id.0)

abbrev pub retirement_key : Keyed RetiredReplicaLifetime
retirement_key = by_pair (λ x. (x.raft_group_id.0, x.replica_id.0))

-- tablets by their group, for lookups
abbrev pub group_key : Keyed TabletDescriptor
group_key = by_number (λ t. t.raft_group_id.0)

-- "Rows rise by id": each put before the first with a higher id
unfoldable pub sorted : {A : Type 0} → Keyed A → List A → List A
sorted key [] = []
sorted key (x ∷ l) = insert_by (before key) x (sorted key l)

-- ---- what a row lists

abbrev pub endpoints : NodeDescriptor → List Name
endpoints n = n.raft_addr ∷ n.snapshot_addr ∷ n.sql_addr ∷ n.admin_addr ∷ []

-- "A count above 7 makes all seven places used"
abbrev pub desired : DesiredReplicaPlacement → List DesiredReplica
desired p = take p.replica_count p.replicas

abbrev pub leaders : PlacementPolicy → List NodeId
leaders q = take q.preferred_leader_count q.preferred_leader_nodes

-- the same node with another lifecycle
abbrev pub with_lifecycle : NodeDescriptor → ℕ → NodeDescriptor
with_lifecycle n to = record n { lifecycle = to }

-- ---- the same record, field by field; texts as byte strings, lists in order

unfoldable pub same_node_directory : NodeDescriptor → NodeDescriptor → Bool
same_node_directory a b =
    all_of
    (eqb a.node_id.0 b.node_id.0
    ∷ same_name a.raft_addr b.raft_addr
    ∷ same_name a.snapshot_addr b.snapshot_addr
    ∷ same_name a.sql_addr b.sql_addr
    ∷ same_name a.admin_addr b.admin_addr
    ∷ same_optional a.region b.region
    ∷ same_optional a.zone b.zone
    ∷ same_optional a.rack b.rack
    ∷ same_label a.storage_class b.storage_class
    ∷ [])

unfoldable pub same_node : NodeDescriptor → NodeDescriptor → Bool
same_node a b = same_node_directory a b && eqb a.lifecycle b.lifecycle

unfoldable pub same_partition : PartitionSpec → PartitionSpec → Bool
same_partition a b =
    all_of
    (eqb a.kind b.kind
    ∷ eqb a.bucket b.bucket
    ∷ eqb a.bucket_count b.bucket_count
    ∷ same_key a.start_key b.start_key
    ∷ same_key a.end_key b.end_key
    ∷ [])

unfoldable pub same_tablet : TabletDescriptor → TabletDescriptor → Bool
same_tablet a b =
    all_of
    (eqb a.tablet_id.0 b.tablet_id.0
    ∷ eqb a.table_id.0 b.table_id.0
    ∷ eqb a.raft_group_id.0 b.raft_group_id.0
    ∷ eqb a.tablet_epoch b.tablet_epoch
    ∷ same_partition a.partition b.partition
    ∷ [])

abbrev pub same_replica : DesiredReplica → DesiredReplica → Bool
same_replica a b = eqb a.replica_id.0 b.replica_id.0 && (eqb a.node_id.0 b.node_id.0 && eqb a.role b.role)

-- as many, and the same in each place
abbrev pub same_list : {A : Type 0} → (A → A → Bool) → List A → List A → Bool
same_list same l m = pointwise same l m

unfoldable pub same_policy : PlacementPolicy → PlacementPolicy → Bool
same_policy a b =
    all_of
    (eqb a.replication_factor b.replication_factor
    ∷ eqb a.min_distinct_regions b.min_distinct_regions
    ∷ eqb a.min_distinct_zones b.min_distinct_zones
    ∷ eqb a.min_distinct_racks b.min_distinct_racks
    ∷ same_optional a.required_storage_class b.required_storage_class
    ∷ same_list (λ (x y : NodeId). eqb x.0 y.0) (leaders a) (leaders b)
    ∷ [])

unfoldable pub same_placement : DesiredReplicaPlacement → DesiredReplicaPlacement → Bool
same_placement a b =
    all_of
    (eqb a.tablet_id.0 b.tablet_id.0
    ∷ eqb a.configuration_epoch b.configuration_epoch
    ∷ same_list same_replica (desired a) (desired b)
    ∷ same_policy a.placement_policy b.placement_policy
    ∷ [])

unfoldable pub same_retirement : RetiredReplicaLifetime → RetiredReplicaLifetime → Bool
same_retirement a b =
    all_of
    (eqb a.raft_group_id.0 b.raft_group_id.0
    ∷ eqb a.replica_id.0 b.replica_id.0
    ∷ eqb a.desired_configuration_epoch b.desired_configuration_epoch
    ∷ eqb a.removed_conf_state_version b.removed_conf_state_version
    ∷ eqb a.removal_index b.removal_index
    ∷ eqb a.removal_term b.removal_term
    ∷ [])

-- ---- unused places of a placement

abbrev pub is_zero_replica : DesiredReplica → Bool
is_zero_replica r = is_zero r.replica_id.0 && (is_zero r.node_id.0 && is_zero r.role)

abbrev pub is_zero_id : NodeId → Bool
is_zero_id n = is_zero n.0

-- ---- what is read where there is no row: numbers 0 and empty lists

abbrev pub blank_node : NodeDescriptor
blank_node =
    record {
      node_id = record { 0 = 0 };
      raft_addr = blank_name;
      snapshot_addr = blank_name;
      sql_addr = blank_name;
      admin_addr = blank_name;
      region = blank_optional;
      zone = blank_optional;
      rack = blank_optional;
      storage_class = blank_label;
      lifecycle = 0;
    }

abbrev pub blank_table : TableRow
blank_table = record { table_id = record { 0 = 0 }; tablet_count = 0 }

abbrev pub blank_tablet : TabletDescriptor
blank_tablet =
    record {
      tablet_id = record { 0 = 0 };
      table_id = record { 0 = 0 };
      raft_group_id = record { 0 = 0 };
      tablet_epoch = 0;
      partition = record { kind = 0; bucket = 0; bucket_count = 0; start_key = blank_key; end_key = blank_key };
    }

abbrev pub blank_placement : DesiredReplicaPlacement
blank_placement =
    record {
      tablet_id = record { 0 = 0 };
      configuration_epoch = 0;
      replica_count = 0;
      replicas = [];
      placement_policy =
          record {
            replication_factor = 0;
            min_distinct_regions = 0;
            min_distinct_zones = 0;
            min_distinct_racks = 0;
            required_storage_class = blank_optional;
            preferred_leader_count = 0;
            preferred_leader_nodes = [];
          };
    }

abbrev pub blank_retirement : RetiredReplicaLifetime
blank_retirement =
    record {
      raft_group_id = record { 0 = 0 };
      replica_id = record { 0 = 0 };
      desired_configuration_epoch = 0;
      removed_conf_state_version = 0;
      removal_index = 0;
      removal_term = 0;
    }

-- ---- lookups
-- the row of each table under an id, a name and a line each

abbrev pub node_of : ℕ → List NodeDescriptor → NodeDescriptor
node_of = row node_key blank_node

abbrev pub table_of : ℕ → List TableRow → TableRow
table_of = row table_key blank_table

abbrev pub tablet_of : ℕ → List TabletDescriptor → TabletDescriptor
tablet_of = row tablet_key blank_tablet

-- the first tablet, by id, of a group
abbrev pub tablet_of_group : ℕ → List TabletDescriptor → TabletDescriptor
tablet_of_group = row group_key blank_tablet

abbrev pub placement_of : ℕ → List DesiredReplicaPlacement → DesiredReplicaPlacement
placement_of = row placement_key blank_placement
