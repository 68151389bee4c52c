-- A store as one block of bytes: the rows that it holds, and whether it is sound (reason 12). Assumes nothing.
use Rattle.std.specs.Prelude.{ℕ, ◌≡◌, Bool, true, false, cond, List, [], ◌∷◌, eqb, length}
use Rattle.laws.specs.Bytes.{field_at}
use Rattle.laws.specs.Tests.{all_of}
use Rattle.tables.specs.Rows.{rows_of, tidy}
use Rattle.rows.specs.Rows.{node_rows, table_rows, tablet_rows, placement_rows, retirement_rows}
use Rattle.encode.specs.Widths.{node_width, table_width, tablet_width, placement_width, retirement_width}
use Rattle.encode.specs.Encode.{name_row, marks_at}
use Rattle.metadata.specs.Rooms.{node_room, table_room, tablet_room, retirement_room}
use Rattle.metadata.specs.Answers.{is_applied}
use Rattle.metadata.specs.declared.Command.{Command}
use Rattle.metadata.specs.Model.{StoreRows, DirectoryRows, CatalogRows, Outcome, decide, step}
use Rattle.metadata.specs.Sound.{sound_rows}
use Rattle.metadata.specs.Texts.{OptionalName}
use Rattle.metadata.specs.declared.Answer.{Answer}
use Rattle.metadata.specs.declared.Answer.TheVariants as A
use Rattle.metadata.specs.declared.NodeDescriptor.{NodeDescriptor}
use Rattle.metadata.specs.declared.TableRow.{TableRow}
use Rattle.metadata.specs.declared.TabletDescriptor.{TabletDescriptor}
use Rattle.metadata.specs.declared.DesiredReplicaPlacement.{DesiredReplicaPlacement}
use Rattle.metadata.specs.declared.RetiredReplicaLifetime.{RetiredReplicaLifetime}
use Rattle.metadata.specs.declared.MetadataAllocatorState.{MetadataAllocatorState}
use Rattle.layout.specs.Places.{
  name_length,
  nodes_place,
  nodes_length,
  directory_length,
  tables_length,
  tablets_place,
  tablets_length,
  placements_place,
  placements_length,
  retirements_place,
  retirements_length,
  marks_place,
  marks_length,
  catalog_length,
  store_length,
}

-- ---- the parts of a block, each as long as it is there

abbrev pub directory_part : List ℕ → List ℕ
directory_part b = field_at directory_length b 0

abbrev pub catalog_part : List ℕ → List ℕ
catalog_part b = field_at catalog_length b directory_length

abbrev pub nodes_part : List ℕ → List ℕ
nodes_part d = field_at nodes_length d nodes_place

abbrev pub tables_part : List ℕ → List ℕ
tables_part c = field_at tables_length c 0

abbrev pub tablets_part : List ℕ → List ℕ
tablets_part c = field_at tablets_length c tablets_place

abbrev pub placements_part : List ℕ → List ℕ
placements_part c = field_at placements_length c placements_place

abbrev pub retirements_part : List ℕ → List ℕ
retirements_part c = field_at retirements_length c retirements_place

-- ---- what the parts say

abbrev pub nodes_in : List ℕ → List NodeDescriptor
nodes_in t = node_rows (rows_of node_width node_room t)

abbrev pub tables_in : List ℕ → List TableRow
tables_in t = table_rows (rows_of table_width table_room t)

abbrev pub tablets_in : List ℕ → List TabletDescriptor
tablets_in t = tablet_rows (rows_of tablet_width tablet_room t)

abbrev pub placements_in : List ℕ → List DesiredReplicaPlacement
placements_in t = placement_rows (rows_of placement_width tablet_room t)

abbrev pub retirements_in : List ℕ → List RetiredReplicaLifetime
retirements_in t = retirement_rows (rows_of retirement_width retirement_room t)

unfoldable pub name_of : List ℕ → OptionalName
name_of d = name_row (field_at name_length d 0)

unfoldable pub marks_of : List ℕ → MetadataAllocatorState
marks_of c = marks_at (field_at marks_length c marks_place)

abbrev pub directory_of : List ℕ → DirectoryRows
directory_of d = record { name = name_of d; nodes = nodes_in (nodes_part d) }

abbrev pub catalog_of : List ℕ → CatalogRows
catalog_of c =
    record {
      tables = tables_in (tables_part c);
      tablets = tablets_in (tablets_part c);
      placements = placements_in (placements_part c);
      retirements = retirements_in (retirements_part c);
      marks = marks_of c;
    }

-- the rows that a block holds
unfoldable pub store_of : List ℕ → StoreRows
store_of b = record { directory = directory_of (directory_part b); catalog = catalog_of (catalog_part b) }

-- ---- reason 12: "a store over this room, its rows not rising, ..": as long as a store is, the counts within the rooms, zeros behind the rows in use, and what is asked of the rows

unfoldable pub tidy_directory : List ℕ → Bool
tidy_directory d = tidy node_width node_room (nodes_part d)

unfoldable pub tidy_catalog : List ℕ → Bool
tidy_catalog c =
    all_of
    (tidy table_width table_room (tables_part c)
    ∷ tidy tablet_width tablet_room (tablets_part c)
    ∷ tidy placement_width tablet_room (placements_part c)
    ∷ tidy retirement_width retirement_room (retirements_part c)
    ∷ [])

unfoldable pub sound : List ℕ → Bool
sound b =
    all_of
    (eqb (length b) store_length
    ∷ tidy_directory (directory_part b)
    ∷ tidy_catalog (catalog_part b)
    ∷ sound_rows (store_of b)
    ∷ [])

-- ---- what a command does to a block

-- on a sound block: the definition's step, and the block stays sound; a refusal changes nothing
pub record Stepped (b : List ℕ) (c : Command) (b' : List ℕ) (a : Answer) : Type 0 where
  pub answer : a ≡ decide (store_of b) c
  pub rows : store_of b' ≡ (step (store_of b) c).rows
  pub sounds : sound b' ≡ true
  pub refused : is_applied a ≡ false → b' ≡ b

-- on any block, of any length: 10 with reason 12 before all else
pub record Entered (b : List ℕ) (c : Command) (b' : List ℕ) (a : Answer) : Type 0 where
  pub answer : a ≡ cond (sound b) (decide (store_of b) c) (A.InvalidCommand 12)
  pub rows : sound b ≡ true → store_of b' ≡ (step (store_of b) c).rows
  pub sounds : sound b ≡ true → sound b' ≡ true
  pub refused : is_applied a ≡ false → b' ≡ b

-- a block that holds what an opening gives
pub record Opened (o : Outcome) (a : Answer) (b : List ℕ) : Type 0 where
  pub answer : a ≡ o.answer
  pub rows : store_of b ≡ o.rows
  pub sounds : sound b ≡ true
