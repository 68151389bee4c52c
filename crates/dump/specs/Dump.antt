-- The final tables and marks as text, a line for each row. "Rows rising by id, a text or key as `=` and its bytes in lower-case hexadecimal,
-- `-` where absent." Each line ends in the byte 10. Assumes nothing.
use Rattle.std.specs.Prelude.{ℕ, List, [], ◌∷◌, ◌++◌, map}
use Rattle.std.specs.List.{concat}
use Rattle.row_lines.specs.RowLines.{node_line, table_line, tablet_line, retired_line}
use Rattle.row_lines.specs.PlacementLines.{placement_line}
use Rattle.row_lines.specs.StoreLines.{name_line, marks_line, next_line, pick_line}
use Rattle.metadata.specs.Labels.{select_initial_placement}
use Rattle.metadata.specs.Model.{StoreRows, DirectoryRows, CatalogRows}
use Rattle.metadata.specs.Tablets.{is_complete}
use Rattle.metadata.specs.declared.TableRow.{TableRow}
use Rattle.metadata.specs.declared.TabletDescriptor.{TabletDescriptor}

-- a table's line, with what the tables and the tablets say of its completeness
abbrev pub table_line_among : List TableRow → List TabletDescriptor → TableRow → List ℕ
table_line_among tables tablets t = table_line (is_complete t.table_id tables tablets) t

-- the directory's lines: the name, the nodes
unfoldable pub directory_lines : DirectoryRows → List (List ℕ)
directory_lines d = name_line d.name ∷ map node_line d.nodes

-- the catalog's lines: the tables, tablets, placements and retired replicas, then the marks and the next replica
unfoldable pub catalog_lines : CatalogRows → List (List ℕ)
catalog_lines c =
    map (table_line_among c.tables c.tablets) c.tables
    ++ map tablet_line c.tablets
    ++ map placement_line c.placements
    ++ map retired_line c.retirements
    ++ marks_line c.marks
    ∷ next_line c.marks
    ∷ []

-- all lines, from the first to the last: behind the directory's and the catalog's that of the first choice
unfoldable pub dump_lines : StoreRows → List (List ℕ)
dump_lines s = directory_lines s.directory ++ catalog_lines s.catalog ++ pick_line (select_initial_placement s.directory.nodes) ∷ []

-- ---- the lines, one behind the other

abbrev pub directory_text : DirectoryRows → List ℕ
directory_text d = concat (directory_lines d)

abbrev pub catalog_text : CatalogRows → List ℕ
catalog_text c = concat (catalog_lines c)

abbrev pub dump_text : StoreRows → List ℕ
dump_text s = concat (dump_lines s)
