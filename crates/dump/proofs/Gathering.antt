-- Lines one behind the other. Assumes nothing.
use Rattle.std.proofs.Common.{◌≡◌, ◌<◌, ◌≤◌, ◌+◌, ℕ, List, [], ◌++◌, true, length, map, take, drop, sym, ap, ◌∙◌, arith, append_assoc, append-nil}
use Rattle.std.proofs.lemmas.Bool.{ltb-true}
use Rattle.std.proofs.lemmas.List.{take-append-drop, take_more, length-append, length-map}
use Rattle.std.proofs.lemmas.List.Folds.{concat-append}
use Rattle.std.specs.List.{concat}
use Rattle.dump.specs.Dump.{directory_lines, catalog_lines, dump_lines}
use Rattle.dump.specs.Lines.{LineAt}
use Rattle.layout.specs.Layout.{directory_of, directory_part, nodes_in, nodes_part, catalog_of, catalog_part, tables_in, tables_part, tablets_in, tablets_part, placements_in, placements_part, retirements_in, retirements_part, store_of}
use Rattle.metadata.specs.Model.{StoreRows, DirectoryRows, CatalogRows}
use Rattle.metadata.specs.Rooms.{node_room, table_room, tablet_room, retirement_room}
use Rattle.rows.specs.Rows.{node_row, table_row, tablet_row, placement_row, retirement_row, node_rows, table_rows, tablet_rows, placement_rows, retirement_rows}
use Rattle.tables.proofs.Pieces.{few_rows}
use Rattle.tables.specs.Rows.{rows_of}

directory_count : (d : DirectoryRows) → length (directory_lines d) ≡ length d.nodes + 1
unfolding directory_lines
directory_count d = grind (arith, length-map)

catalog_count : (k : CatalogRows) → length (catalog_lines k) ≡ length k.tables + length k.tablets + length k.placements + length k.retirements + 2
unfolding catalog_lines
catalog_count k = simp (length-append, length-map)

dump_count : (s : StoreRows) → length (dump_lines s) ≡ length (directory_lines s.directory) + length (catalog_lines s.catalog) + 1
unfolding dump_lines
dump_count s = simp (length-append)

same_length : {X Y : Type 0} (read : X → Y) (rows : List X) {records : List Y} → map read rows ≡ records → length rows ≡ length records
same_length read rows e = sym (length-map rows read) ∙ ap length e

few_records : {A : Type 0} (read : List ℕ → A) (w room : ℕ) (t : List ℕ) → length (map read (rows_of w room t)) ≤ room
few_records read w room t = rw length-map (few_rows w room t)

-- no more lines than the tables have room for, and four
pub few_lines : (b : List ℕ) → length (dump_lines (store_of b)) ≤ 436
unfolding store_of
few_lines b =
    let d = directory_of (directory_part b) in
    let k = catalog_of (catalog_part b) in
    let nodes : length d.nodes ≤ node_room = few_records _ _ _ _ in
    let tables : length k.tables ≤ table_room = few_records _ _ _ _ in
    let tablets : length k.tablets ≤ tablet_room = few_records _ _ _ _ in
    let placements : length k.placements ≤ tablet_room = few_records _ _ _ _ in
    let retirements : length k.retirements ≤ retirement_room = few_records _ _ _ _ in
    omega (arith, dump_count (store_of b), directory_count d, catalog_count k, nodes, tables, tablets, placements, retirements)

-- one for each row, the name's, and the last three
pub counted : (b : List ℕ) (nodes tables tablets placements retirements : List (List ℕ)) → node_rows nodes ≡ nodes_in (nodes_part (directory_part b))
    → table_rows tables ≡ tables_in (tables_part (catalog_part b)) → tablet_rows tablets ≡ tablets_in (tablets_part (catalog_part b))
    → placement_rows placements ≡ placements_in (placements_part (catalog_part b)) → retirement_rows retirements ≡ retirements_in (retirements_part (catalog_part b))
    → length nodes + length tables + length tablets + length placements + length retirements + 4 ≡ length (dump_lines (store_of b))
unfolding store_of
counted b nodes tables tablets placements retirements n t u p r =
    omega (
      arith,
      dump_count (store_of b),
      directory_count (directory_of (directory_part b)),
      catalog_count (catalog_of (catalog_part b)),
      same_length node_row nodes n,
      same_length table_row tables t,
      same_length tablet_row tablets u,
      same_length placement_row placements p,
      same_length retirement_row retirements r,
    )

module _ (lines : List (List ℕ)) (i : ℕ) {line : List ℕ} (s : LineAt lines i line true) where
  pub is_there : i < length lines
  is_there = ltb-true i (length lines) (sym s.there)

  -- one line more
  pub line_added : (front block : List ℕ) {grown : List ℕ} → front ++ block ≡ concat (take i lines) → grown ≡ block ++ line → front ++ grown ≡ concat (take (i + 1) lines)
  line_added front block e g =
      rw (g, take_more lines i [] is_there, concat-append, ← s.line, ← e) (simp (append-nil, append_assoc))

-- the lines up to a number, those behind them that were gathered, and those that are left
pub all_lines : (lines : List (List ℕ)) (next : ℕ) (front block : List ℕ) → front ++ block ≡ concat (take next lines) → concat lines ≡ (front ++ block) ++ concat (drop next lines)
all_lines lines next front block e = rw e (ap concat (sym (take-append-drop next lines)) ∙ concat-append (take next lines) (drop next lines))
