-- Reason 12: what document 01 lists of a store's rows, as a test. Assumes nothing.
-- "A store over this room, its rows not rising, with a node twice in one placement, with padding not zero, or with a mark below
-- a table, tablet, group or desired replica id, gets 10, reason 12, before all else."
use Rattle.std.specs.Prelude.{ℕ, Bool, ◌&&◌, List, [], ◌∷◌, leb, length, drop}
use Rattle.laws.specs.Lists.{every, none_twice}
use Rattle.laws.specs.Keyed.{Keyed, before}
use Rattle.laws.specs.Rows.{rising}
use Rattle.laws.specs.Tests.{all_of}
use Rattle.metadata.specs.Rooms.{node_room, table_room, tablet_room, retirement_room, replica_room}
use Rattle.metadata.specs.Texts.{name_fits, label_fits, key_fits, optional_fits, optional_name_fits}
use Rattle.metadata.specs.Tables.{
  node_key,
  table_key,
  tablet_key,
  placement_key,
  retirement_key,
  endpoints,
  desired,
  is_zero_replica,
  is_zero_id,
}
use Rattle.metadata.specs.Commands.{same_host}
use Rattle.metadata.specs.Model.{StoreRows, DirectoryRows, CatalogRows}
use Rattle.metadata.specs.declared.NodeDescriptor.{NodeDescriptor}
use Rattle.metadata.specs.declared.TabletDescriptor.{TabletDescriptor}
use Rattle.metadata.specs.declared.TableRow.{TableRow}
use Rattle.metadata.specs.declared.DesiredReplica.{DesiredReplica}
use Rattle.metadata.specs.declared.PlacementPolicy.{PlacementPolicy}
use Rattle.metadata.specs.declared.DesiredReplicaPlacement.{DesiredReplicaPlacement}

-- ---- a row: lengths and counts within the room, padding and unused places zero, no node twice in one placement

unfoldable pub sound_node : NodeDescriptor → Bool
sound_node n =
    all_of
    (every name_fits (endpoints n)
    ∷ optional_fits n.region
    ∷ optional_fits n.zone
    ∷ optional_fits n.rack
    ∷ label_fits n.storage_class
    ∷ [])

unfoldable pub sound_tablet : TabletDescriptor → Bool
sound_tablet t = all_of (key_fits t.partition.start_key ∷ key_fits t.partition.end_key ∷ [])

unfoldable pub sound_policy : PlacementPolicy → Bool
sound_policy q =
    all_of
    (leb q.preferred_leader_count replica_room
    ∷ every is_zero_id (drop q.preferred_leader_count q.preferred_leader_nodes)
    ∷ optional_fits q.required_storage_class
    ∷ [])

unfoldable pub sound_placement : DesiredReplicaPlacement → Bool
sound_placement p =
    all_of
    (leb p.replica_count replica_room
    ∷ every is_zero_replica (drop p.replica_count p.replicas)
    ∷ none_twice same_host (desired p)
    ∷ sound_policy p.placement_policy
    ∷ [])

-- ---- marks

abbrev pub replicas_below : ℕ → DesiredReplicaPlacement → Bool
replicas_below mark p = every (λ (r : DesiredReplica). leb r.replica_id.0 mark) (desired p)

unfoldable pub sound_marks : CatalogRows → Bool
sound_marks c =
    all_of
    (every (λ (t : TableRow). leb t.table_id.0 c.marks.max_table_id) c.tables
    ∷ every (λ (t : TabletDescriptor). leb t.tablet_id.0 c.marks.max_tablet_id) c.tablets
    ∷ every (λ (t : TabletDescriptor). leb t.raft_group_id.0 c.marks.max_raft_group_id) c.tablets
    ∷ every (replicas_below c.marks.max_replica_id) c.placements
    ∷ [])

-- ---- the store

-- no more rows than the room, and they rise
abbrev pub sound_table : {A : Type 0} → Keyed A → ℕ → List A → Bool
sound_table key room rows = leb (length rows) room && rising (before key) rows

unfoldable pub sound_directory : DirectoryRows → Bool
sound_directory d =
    all_of
    (optional_name_fits d.name
    ∷ sound_table node_key node_room d.nodes
    ∷ every sound_node d.nodes
    ∷ [])

unfoldable pub sound_catalog : CatalogRows → Bool
sound_catalog c =
    all_of
    (sound_table table_key table_room c.tables
    ∷ sound_table tablet_key tablet_room c.tablets
    ∷ every sound_tablet c.tablets
    ∷ sound_table placement_key tablet_room c.placements
    ∷ every sound_placement c.placements
    ∷ sound_table retirement_key retirement_room c.retirements
    ∷ sound_marks c
    ∷ [])

unfoldable pub sound_rows : StoreRows → Bool
sound_rows s = all_of (sound_directory s.directory ∷ sound_catalog s.catalog ∷ [])
