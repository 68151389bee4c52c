-- One part of a directory or of a catalog written anew: the other parts are as they were. Assumes nothing.
use borrow.Rule.Slice.PartMut.{put_mid}
use Rattle.std.specs.Prelude.{◌≡◌, ℕ, ◌+◌, ◌-◌, ◌≤◌, List, ◌++◌, length, take, drop}
use Rattle.std.proofs.Common.{refl, ap, ◌∙◌, arith}
use Rattle.std.proofs.lemmas.List.{take_at, drop_at, length-append, length-drop}
use Rattle.encode.specs.Encode.{name_row}
use Rattle.laws.specs.Bytes.{field_at}
use Rattle.layout.specs.Layout.{name_of, nodes_part, tables_part, tablets_part, placements_part, retirements_part}
use Rattle.layout.specs.Places.{
  name_length,
  nodes_place,
  nodes_length,
  directory_length,
  tables_length,
  tablets_place,
  tablets_length,
  placements_place,
  placements_length,
  retirements_place,
  retirements_length,
  marks_place,
  marks_length,
  catalog_length,
}
use Rattle.layout.proofs.Parts.{part_same, part_ahead, part_behind, part_length}

-- ---- the directory

pub record NodesWritten (d p d' : List ℕ) : Type 0 where
  pub name : name_of d' ≡ name_of d
  pub nodes : nodes_part d' ≡ p
  pub long : length d' ≡ length d

pub nodes_written : (d p : List ℕ) → length d ≡ directory_length → length p ≡ nodes_length → NodesWritten d p (put_mid nodes_place (length d - nodes_place) d p)
unfolding name_of
nodes_written d p e f =
    let n : length d - nodes_place ≡ nodes_length = omega (arith, e) in
    let h : nodes_place + nodes_length ≤ length d = omega (arith, e) in
    rw n (record {
      name = ap name_row (part_ahead nodes_place nodes_length d p f h 0 name_length (omega arith));
      nodes = part_same nodes_place nodes_length d p f h;
      long = part_length nodes_place nodes_length d p f h;
    })

pub record NameWritten (d n d' : List ℕ) : Type 0 where
  pub name : name_of d' ≡ name_row n
  pub nodes : nodes_part d' ≡ nodes_part d
  pub long : length d' ≡ length d

pub name_written : (d n : List ℕ) → length d ≡ directory_length → length n ≡ name_length → NameWritten d n (n ++ drop name_length d)
unfolding name_of
name_written d n e f =
    record {
      name = ap name_row (take_at n (drop name_length d) name_length f);
      nodes = ap (take nodes_length) (drop_at n (drop name_length d) name_length f);
      long = length-append n (drop name_length d) ∙ omega (arith, length-drop name_length d, e, f);
    }

-- ---- the catalog

pub record CatalogWritten (a t p x m k : List ℕ) : Type 0 where
  pub tables : tables_part k ≡ a
  pub tablets : tablets_part k ≡ t
  pub placements : placements_part k ≡ p
  pub retirements : retirements_part k ≡ x
  pub marks : field_at marks_length k marks_place ≡ m
  pub long : length k ≡ catalog_length

abbrev marks_part : List ℕ → List ℕ
marks_part k = field_at marks_length k marks_place

pub as_it_is : (k : List ℕ) → length k ≡ catalog_length → CatalogWritten (tables_part k) (tablets_part k) (placements_part k) (retirements_part k) (marks_part k) k
as_it_is k e = record { tables = refl; tablets = refl; placements = refl; retirements = refl; marks = refl; long = e }

module _ {a t p x m k : List ℕ} (s : CatalogWritten a t p x m k) where
  pub tablets_written : (n : List ℕ) → length n ≡ tablets_length → CatalogWritten a n p x m (put_mid tablets_place tablets_length k n)
  tablets_written n f =
      let h : tablets_place + tablets_length ≤ length k = omega (arith, s.long) in
      record {
        tables = part_ahead tablets_place tablets_length k n f h 0 tables_length (omega arith) ∙ s.tables;
        tablets = part_same tablets_place tablets_length k n f h;
        placements = part_behind tablets_place tablets_length k n f h placements_place placements_length (omega arith) ∙ s.placements;
        retirements = part_behind tablets_place tablets_length k n f h retirements_place retirements_length (omega arith) ∙ s.retirements;
        marks = part_behind tablets_place tablets_length k n f h marks_place marks_length (omega arith) ∙ s.marks;
        long = part_length tablets_place tablets_length k n f h ∙ s.long;
      }

  pub placements_written : (n : List ℕ) → length n ≡ placements_length → CatalogWritten a t n x m (put_mid placements_place placements_length k n)
  placements_written n f =
      let h : placements_place + placements_length ≤ length k = omega (arith, s.long) in
      record {
        tables = part_ahead placements_place placements_length k n f h 0 tables_length (omega arith) ∙ s.tables;
        tablets = part_ahead placements_place placements_length k n f h tablets_place tablets_length (omega arith) ∙ s.tablets;
        placements = part_same placements_place placements_length k n f h;
        retirements = part_behind placements_place placements_length k n f h retirements_place retirements_length (omega arith) ∙ s.retirements;
        marks = part_behind placements_place placements_length k n f h marks_place marks_length (omega arith) ∙ s.marks;
        long = part_length placements_place placements_length k n f h ∙ s.long;
      }

  pub retirements_written : (n : List ℕ) → length n ≡ retirements_length → CatalogWritten a t p n m (put_mid retirements_place retirements_length k n)
  retirements_written n f =
      let h : retirements_place + retirements_length ≤ length k = omega (arith, s.long) in
      record {
        tables = part_ahead retirements_place retirements_length k n f h 0 tables_length (omega arith) ∙ s.tables;
        tablets = part_ahead retirements_place retirements_length k n f h tablets_place tablets_length (omega arith) ∙ s.tablets;
        placements = part_ahead retirements_place retirements_length k n f h placements_place placements_length (omega arith) ∙ s.placements;
        retirements = part_same retirements_place retirements_length k n f h;
        marks = part_behind retirements_place retirements_length k n f h marks_place marks_length (omega arith) ∙ s.marks;
        long = part_length retirements_place retirements_length k n f h ∙ s.long;
      }

  pub marks_written : (n : List ℕ) → length n ≡ marks_length → CatalogWritten a t p x n (put_mid marks_place (length k - marks_place) k n)
  marks_written n f =
      let h : marks_place + marks_length ≤ length k = omega (arith, s.long) in
      let q : length k - marks_place ≡ marks_length = omega (arith, s.long) in
      rw q (record {
        tables = part_ahead marks_place marks_length k n f h 0 tables_length (omega arith) ∙ s.tables;
        tablets = part_ahead marks_place marks_length k n f h tablets_place tablets_length (omega arith) ∙ s.tablets;
        placements = part_ahead marks_place marks_length k n f h placements_place placements_length (omega arith) ∙ s.placements;
        retirements = part_ahead marks_place marks_length k n f h retirements_place retirements_length (omega arith) ∙ s.retirements;
        marks = part_same marks_place marks_length k n f h;
        long = part_length marks_place marks_length k n f h ∙ s.long;
      })
