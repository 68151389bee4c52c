-- Demand 3: one claim over every list of commands. Assumes nothing.
use Rattle.std.specs.Prelude.{ℕ, ◌≤◌, ◌≡◌, Bool, true, false, List}
use Rattle.laws.specs.Keyed.{has}
use Rattle.laws.specs.Lists.{All, Apart}
use Rattle.metadata.specs.Texts.{key_text}
use Rattle.text.specs.Ranges.{in_rangeb}
use Rattle.metadata.specs.Tables.{node_key, tablet_key, node_of, tablet_of, desired}
use Rattle.metadata.specs.Commands.{Command}
use Rattle.metadata.specs.Tablets.{is_range}
use Rattle.metadata.specs.Lifecycles.{decommissioning}
use Rattle.metadata.specs.Model.{StoreRows}
use Rattle.metadata.specs.Sound.{sound_rows}
use Rattle.metadata.specs.History.{History, replay, applied_placements, retired_in}
use Rattle.metadata.specs.declared.Answer.{Answer}
use Rattle.metadata.specs.declared.NodeDescriptor.{NodeDescriptor}
use Rattle.metadata.specs.declared.TabletDescriptor.{TabletDescriptor}
use Rattle.metadata.specs.declared.DesiredReplica.{DesiredReplica}
use Rattle.metadata.specs.declared.DesiredReplicaPlacement.{DesiredReplicaPlacement}

-- name, tables and marks are the history's, row for row
pub record Holds (s : StoreRows) (h : History) : Type 0 where
  pub name : s.directory.name ≡ h.name
  pub nodes : s.directory.nodes ≡ h.nodes
  pub tables : s.catalog.tables ≡ h.tables
  pub tablets : s.catalog.tablets ≡ h.tablets
  pub placements : s.catalog.placements ≡ h.placements
  pub retirements : s.catalog.retirements ≡ h.retirements
  pub marks : s.catalog.marks ≡ h.marks

-- the copy stands on a registered node that is Active, Draining or Decommissioning
pub record Stands (nodes : List NodeDescriptor) (r : DesiredReplica) : Type 0 where
  pub registered : has node_key r.node_id.0 nodes ≡ true
  pub serving : (node_of r.node_id.0 nodes).lifecycle ≤ decommissioning

-- the copy is not retired in its group, "its group the tablet's"
abbrev pub Unretired : History → List TabletDescriptor → DesiredReplicaPlacement → DesiredReplica → Type 0
Unretired h tablets p r = retired_in h (tablet_of p.tablet_id.0 tablets).raft_group_id.0 r.replica_id.0 ≡ false

-- the key lies in the range of the tablet
abbrev pub lies_in : List ℕ → TabletDescriptor → Bool
lies_in key t = in_rangeb (key_text t.partition.start_key) (key_text t.partition.end_key) key

-- no key, whatever its bytes and length, lies in both, where both are Range tablets of one table
abbrev pub Disjoint : TabletDescriptor → TabletDescriptor → Type 0
Disjoint a b =
    is_range a ≡ true → is_range b ≡ true → a.table_id.0 ≡ b.table_id.0 → (key : List ℕ) → lies_in key a ≡ true → lies_in key b ≡ true → ⊥

-- what holds of the store s after the commands cs, answered as rs, from the history h
pub record Claims (h : History) (cs : List Command) (rs : List Answer) (s : StoreRows) : Type 0 where
  pub rows : Holds s (replay h cs rs)
  -- so reason 12 is never given
  pub sound : sound_rows s ≡ true
  pub epochs : All (λ (p : DesiredReplicaPlacement). p.configuration_epoch ≡ applied_placements p.tablet_id.0 cs rs) s.catalog.placements
  -- every placement's tablet is there
  pub placed : All (λ (p : DesiredReplicaPlacement). has tablet_key p.tablet_id.0 s.catalog.tablets ≡ true) s.catalog.placements
  pub copies : All (λ (p : DesiredReplicaPlacement). All (Stands s.directory.nodes) (desired p)) s.catalog.placements
  pub unretired : All (λ (p : DesiredReplicaPlacement). All (Unretired (replay h cs rs) s.catalog.tablets p) (desired p)) s.catalog.placements
  pub ranges : Apart Disjoint s.catalog.tablets
