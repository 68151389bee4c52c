-- What an Applied command leaves of a part of the block, and of the block. Assumes nothing.
use Rattle.std.specs.Prelude.{ℕ, ◌≡◌, ◌≢◌, true, List, length}
use Rattle.changes.specs.Changes.{Added, Put}
use Rattle.encode.specs.Widths.{tablet_width, placement_width, retirement_width}
use Rattle.layout.specs.Layout.{
  directory_part,
  catalog_part,
  nodes_part,
  tables_part,
  tablets_part,
  placements_part,
  retirements_part,
  name_of,
  marks_of,
  store_of,
  tidy_directory,
  tidy_catalog,
}
use Rattle.layout.specs.Places.{store_length}
use Rattle.metadata.specs.Model.{StoreRows, raised_by_tablet, raised_by_placement}
use Rattle.metadata.specs.Rooms.{tablet_room, retirement_room}
use Rattle.metadata.specs.Sound.{sound_placement}
use Rattle.metadata.specs.Tables.{tablet_key, placement_key, retirement_key}
use Rattle.metadata.specs.Texts.{OptionalName, optional_name_fits}
use Rattle.metadata.specs.declared.DesiredReplicaPlacement.{DesiredReplicaPlacement}
use Rattle.metadata.specs.declared.RetiredReplicaLifetime.{RetiredReplicaLifetime}
use Rattle.metadata.specs.declared.TabletDescriptor.{TabletDescriptor}
use Rattle.rows.specs.Rows.{tablet_row, placement_row, retirement_row}

-- ---- the directory

-- the name was written; one that is present and has no byte would be read as none
pub record NameGiven (n : OptionalName) (d d' : List ℕ) : Type 0 where
  pub name : optional_name_fits n ≡ true → n.text.len ≢ 0 → name_of d' ≡ n
  pub nodes : nodes_part d' ≡ nodes_part d
  pub long : length d' ≡ length d

-- the nodes changed as P says
pub record NodesChanged (P : List ℕ → List ℕ → Type 0) (d d' : List ℕ) : Type 0 where
  pub name : name_of d' ≡ name_of d
  pub nodes : P (nodes_part d) (nodes_part d')
  pub long : length d' ≡ length d

-- ---- the catalog

pub record TabletAdded (t : TabletDescriptor) (k k' : List ℕ) : Type 0 where
  pub tables : tables_part k' ≡ tables_part k
  pub tablets : Added tablet_key tablet_row tablet_width tablet_room t true (tablets_part k) (tablets_part k')
  pub placements : placements_part k' ≡ placements_part k
  pub retirements : retirements_part k' ≡ retirements_part k
  pub marks : marks_of k' ≡ raised_by_tablet t (marks_of k)
  pub long : length k' ≡ length k

pub record PlacementPut (p : DesiredReplicaPlacement) (k k' : List ℕ) : Type 0 where
  pub tables : tables_part k' ≡ tables_part k
  pub tablets : tablets_part k' ≡ tablets_part k
  pub placements : Put placement_key placement_row placement_width tablet_room p (sound_placement p) (placements_part k) (placements_part k')
  pub retirements : retirements_part k' ≡ retirements_part k
  pub marks : marks_of k' ≡ raised_by_placement p (marks_of k)
  pub long : length k' ≡ length k

pub record RetirementAdded (x : RetiredReplicaLifetime) (k k' : List ℕ) : Type 0 where
  pub tables : tables_part k' ≡ tables_part k
  pub tablets : tablets_part k' ≡ tablets_part k
  pub placements : placements_part k' ≡ placements_part k
  pub retirements : Added retirement_key retirement_row retirement_width retirement_room x true (retirements_part k) (retirements_part k')
  pub marks : marks_of k' ≡ marks_of k
  pub long : length k' ≡ length k

-- ---- the block

-- the directory changed as P says, and nothing else
pub record DirectoryChanged (P : List ℕ → List ℕ → Type 0) (b b' : List ℕ) : Type 0 where
  pub directory : P (directory_part b) (directory_part b')
  pub catalog : catalog_part b' ≡ catalog_part b
  pub long : length b' ≡ store_length

-- the catalog changed as P says, and nothing else
pub record CatalogChanged (P : List ℕ → List ℕ → Type 0) (b b' : List ℕ) : Type 0 where
  pub directory : directory_part b' ≡ directory_part b
  pub catalog : P (catalog_part b) (catalog_part b')
  pub long : length b' ≡ store_length

-- the block holds these rows, with zeros behind those in use
pub record Committed (rows_left : StoreRows) (b' : List ℕ) : Type 0 where
  pub rows : store_of b' ≡ rows_left
  pub directory : tidy_directory (directory_part b') ≡ true
  pub catalog : tidy_catalog (catalog_part b') ≡ true
  pub long : length b' ≡ store_length
