-- Where the parts of a store stand, and how long they are: each table is a count of eight bytes and its rows. src/lib.rt names them once more. Assumes nothing.
use Rattle.std.specs.Prelude.{ℕ}

-- ---- the directory: the name, the nodes

abbrev pub name_length : ℕ
name_length = 49

abbrev pub nodes_place : ℕ
nodes_place = 49

abbrev pub nodes_length : ℕ
nodes_length = 9768

abbrev pub directory_length : ℕ
directory_length = 9817

-- ---- the catalog: tables, tablets, placements, retirements, marks

abbrev pub tables_length : ℕ
tables_length = 200

abbrev pub tablets_place : ℕ
tablets_place = 200

abbrev pub tablets_length : ℕ
tablets_length = 6856

abbrev pub placements_place : ℕ
placements_place = 7056

abbrev pub placements_length : ℕ
placements_length = 14984

abbrev pub retirements_place : ℕ
retirements_place = 22040

abbrev pub retirements_length : ℕ
retirements_length = 12296

abbrev pub marks_place : ℕ
marks_place = 34336

abbrev pub marks_length : ℕ
marks_length = 32

abbrev pub catalog_length : ℕ
catalog_length = 34368

-- ---- the store: the directory, then the catalog

abbrev pub store_length : ℕ
store_length = 44185
