-- Two sound blocks with the same rows are the same bytes. Assumes nothing.
use Rattle.std.specs.Prelude.{◌≡◌, ℕ, ◌+◌, true, List, ◌++◌, length, take, drop}
use Rattle.std.proofs.Common.{sym, ap, ap₂, ◌∙◌, arith, take-add, take_all, eqb-true}
use Rattle.std.proofs.lemmas.List.{drop-drop}
use Rattle.laws.specs.Bytes.{field_at}
use Rattle.laws.proofs.Tests.{each_of}
use Rattle.text.specs.Ranges.{Bytes}
use Rattle.numbers.proofs.Numbers.{field_length, bytes_take, bytes_drop}
use Rattle.tables.proofs.Once.{records_once}
use Rattle.rows.specs.Rows.{node_row, table_row, tablet_row, placement_row, retirement_row}
use Rattle.encode.specs.Widths.{node_width, table_width, tablet_width, placement_width, retirement_width}
use Rattle.encode.proofs.RowsThere.{node_tells, table_tells, tablet_tells, placement_tells, retirement_tells, marks_tells, name_tells}
use Rattle.metadata.specs.Rooms.{node_room, table_room, tablet_room, retirement_room}
use Rattle.metadata.specs.Model.{StoreRows, DirectoryRows, CatalogRows}
use Rattle.layout.specs.Layout.{
  directory_part,
  catalog_part,
  nodes_part,
  tables_part,
  tablets_part,
  placements_part,
  retirements_part,
  directory_of,
  catalog_of,
  store_of,
  name_of,
  marks_of,
  tidy_directory,
  tidy_catalog,
  sound,
}
use Rattle.layout.specs.Places.{
  name_length,
  nodes_place,
  nodes_length,
  directory_length,
  tables_length,
  tablets_place,
  tablets_length,
  placements_place,
  placements_length,
  retirements_place,
  retirements_length,
  marks_place,
  marks_length,
  catalog_length,
  store_length,
}

-- ---- parts of two lists of bytes, as long as each other
module _ (l k : List ℕ) where
  -- what is the same up to a place, and behind it
  next_same : (n m a : ℕ) → field_at n l a ≡ field_at n k a → field_at m l (a + n) ≡ field_at m k (a + n) → field_at (n + m) l a ≡ field_at (n + m) k a
  next_same n m a e f =
      let cut : (x : List ℕ) → field_at (n + m) x a ≡ field_at n x a ++ field_at m x (a + n) =
      (λ x. take-add n m (drop a x) ∙ ap (λ (y : List ℕ). field_at n x a ++ take m y) (drop-drop n a x)) in
      cut l ∙ ap₂ (λ (x y : List ℕ). x ++ y) e f ∙ sym (cut k)

  -- what is the same to the end is the same
  all_same : (n : ℕ) → length l ≡ n → length k ≡ n → take n l ≡ take n k → l ≡ k
  all_same n g h e = sym (take_all n l (omega (arith, g))) ∙ e ∙ take_all n k (omega (arith, h))

pub part_bytes : (n a : ℕ) (l : List ℕ) → Bytes l → Bytes (field_at n l a)
part_bytes n a l b = bytes_take n (drop a l) (bytes_drop a l b)

-- ---- the directory
module _ (d e : List ℕ) (g : length d ≡ directory_length) (h : length e ≡ directory_length) (b : Bytes d) (c : Bytes e) where
  pub directory_once : tidy_directory d ≡ true → tidy_directory e ≡ true → directory_of d ≡ directory_of e → d ≡ e
  unfolding name_of tidy_directory
  directory_once p q same =
      let name : field_at name_length d 0 ≡ field_at name_length e 0 =
      name_tells (field_at name_length d 0) (field_at name_length e 0) (field_length name_length d 0 (omega (arith, g))) (field_length name_length e 0 (omega (arith, h)))
      (part_bytes name_length 0 d b) (part_bytes name_length 0 e c) (ap (λ (x : DirectoryRows). x.name) same) in
      let nodes : nodes_part d ≡ nodes_part e =
      records_once node_row node_width node_tells node_room (nodes_part d) (nodes_part e) p q
      (part_bytes nodes_length nodes_place d b) (part_bytes nodes_length nodes_place e c) (ap (λ (x : DirectoryRows). x.nodes) same) in
      all_same d e directory_length g h (next_same d e name_length nodes_length 0 name nodes)

-- ---- the catalog
module _ (d e : List ℕ) (g : length d ≡ catalog_length) (h : length e ≡ catalog_length) (b : Bytes d) (c : Bytes e) where
  pub catalog_once : tidy_catalog d ≡ true → tidy_catalog e ≡ true → catalog_of d ≡ catalog_of e → d ≡ e
  unfolding marks_of tidy_catalog
  catalog_once p q same =
      let s = each_of _ p in
      let t = each_of _ q in
      let tables : tables_part d ≡ tables_part e =
      records_once table_row table_width table_tells table_room (tables_part d) (tables_part e) s.0 t.0
      (part_bytes tables_length 0 d b) (part_bytes tables_length 0 e c) (ap (λ (x : CatalogRows). x.tables) same) in
      let tablets : tablets_part d ≡ tablets_part e =
      records_once tablet_row tablet_width tablet_tells tablet_room (tablets_part d) (tablets_part e) s.1.0 t.1.0
      (part_bytes tablets_length tablets_place d b) (part_bytes tablets_length tablets_place e c) (ap (λ (x : CatalogRows). x.tablets) same) in
      let placements : placements_part d ≡ placements_part e =
      records_once placement_row placement_width placement_tells tablet_room (placements_part d) (placements_part e) s.1.1.0 t.1.1.0
      (part_bytes placements_length placements_place d b) (part_bytes placements_length placements_place e c) (ap (λ (x : CatalogRows). x.placements) same) in
      let retirements : retirements_part d ≡ retirements_part e =
      records_once retirement_row retirement_width retirement_tells retirement_room (retirements_part d) (retirements_part e) s.1.1.1.0 t.1.1.1.0
      (part_bytes retirements_length retirements_place d b) (part_bytes retirements_length retirements_place e c) (ap (λ (x : CatalogRows). x.retirements) same) in
      let marks : field_at marks_length d marks_place ≡ field_at marks_length e marks_place =
      marks_tells (field_at marks_length d marks_place) (field_at marks_length e marks_place) (field_length marks_length d marks_place (omega (arith, g))) (field_length marks_length e marks_place (omega (arith, h)))
      (part_bytes marks_length marks_place d b) (part_bytes marks_length marks_place e c) (ap (λ (x : CatalogRows). x.marks) same) in
      all_same d e catalog_length g h
      (next_same d e marks_place marks_length 0
      (next_same d e retirements_place retirements_length 0
      (next_same d e placements_place placements_length 0
      (next_same d e tablets_place tablets_length 0 tables tablets) placements) retirements) marks)

-- ---- the store
module _ (d e : List ℕ) (b : Bytes d) (c : Bytes e) where
  pub store_once : sound d ≡ true → sound e ≡ true → store_of d ≡ store_of e → d ≡ e
  unfolding sound store_of
  store_once p q same =
      let s = each_of _ p in
      let t = each_of _ q in
      let g : length d ≡ store_length = eqb-true _ _ s.0 in
      let h : length e ≡ store_length = eqb-true _ _ t.0 in
      let directory : directory_part d ≡ directory_part e =
      directory_once (directory_part d) (directory_part e)
      (field_length directory_length d 0 (omega (arith, g))) (field_length directory_length e 0 (omega (arith, h)))
      (part_bytes directory_length 0 d b) (part_bytes directory_length 0 e c) s.1.0 t.1.0 (ap (λ (x : StoreRows). x.directory) same) in
      let catalog : catalog_part d ≡ catalog_part e =
      catalog_once (catalog_part d) (catalog_part e)
      (field_length catalog_length d directory_length (omega (arith, g))) (field_length catalog_length e directory_length (omega (arith, h)))
      (part_bytes catalog_length directory_length d b) (part_bytes catalog_length directory_length e c) s.1.1.0 t.1.1.0 (ap (λ (x : StoreRows). x.catalog) same) in
      all_same d e store_length g h (next_same d e directory_length catalog_length 0 directory catalog)
