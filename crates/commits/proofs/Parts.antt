-- A part of the directory, of the catalog and of the block, written anew. Assumes nothing.
use borrow.Rule.Slice.PartMut.{put_mid}
use Rattle.std.specs.Prelude.{◌≡◌, ◌≢◌, ℕ, ◌+◌, ◌-◌, ◌≤◌, true, List, ◌++◌, length, take, drop}
use Rattle.std.proofs.Common.{refl, sym, ap, ◌∙◌, arith, subst}
use Rattle.std.proofs.lemmas.List.{take_at, drop_at, length-append, length-drop}
use Rattle.changes.specs.Changes.{Added, Put}
use Rattle.commits.specs.Commits.{NameGiven, NodesChanged, TabletAdded, PlacementPut, RetirementAdded, DirectoryChanged, CatalogChanged}
use Rattle.encode.specs.Encode.{name_row, marks_at}
use Rattle.encode.specs.Widths.{tablet_width, placement_width, retirement_width}
use Rattle.layout.specs.Layout.{directory_part, catalog_part, nodes_part, tablets_part, placements_part, retirements_part, marks_of}
use Rattle.layout.specs.Places.{name_length, nodes_place, nodes_length, directory_length, tablets_place, tablets_length, placements_place, placements_length, retirements_place, retirements_length, marks_place, marks_length, catalog_length, store_length}
use Rattle.layout.proofs.Frames.{nodes_written, name_written, CatalogWritten, as_it_is, tablets_written, placements_written, retirements_written, marks_written}
use Rattle.layout.proofs.Parts.{part_same, part_ahead, part_length, tail_is}
use Rattle.numbers.proofs.Numbers.{field_length}
use Rattle.metadata.specs.Model.{raised_by_tablet, raised_by_placement}
use Rattle.metadata.specs.Rooms.{tablet_room, retirement_room}
use Rattle.metadata.specs.Sound.{sound_placement}
use Rattle.metadata.specs.Tables.{tablet_key, placement_key, retirement_key}
use Rattle.metadata.specs.Texts.{OptionalName, optional_name_fits}
use Rattle.metadata.specs.declared.DesiredReplicaPlacement.{DesiredReplicaPlacement}
use Rattle.metadata.specs.declared.MetadataAllocatorState.{MetadataAllocatorState}
use Rattle.metadata.specs.declared.RetiredReplicaLifetime.{RetiredReplicaLifetime}
use Rattle.metadata.specs.declared.TabletDescriptor.{TabletDescriptor}
use Rattle.rows.specs.Rows.{tablet_row, placement_row, retirement_row}

-- ---- the directory
module _ (d : List ℕ) (e : length d ≡ directory_length) where
  pub name_given : (n : OptionalName) (row : List ℕ) → length row ≡ name_length → (optional_name_fits n ≡ true → n.text.len ≢ 0 → name_row row ≡ n) → NameGiven n d (row ++ drop name_length d)
  name_given n row f r =
      let w = name_written d row e f in
      record { name = λ p q. w.name ∙ r p q; nodes = w.nodes; long = w.long }

  -- what is lent of it for the nodes
  nodes_lent : take (length d - nodes_place) (drop nodes_place d) ≡ nodes_part d
  nodes_lent = tail_is nodes_place nodes_length directory_length d e refl

  pub nodes_changed : (P : List ℕ → List ℕ → Type 0) (p : List ℕ) → P (take (length d - nodes_place) (drop nodes_place d)) p → length p ≡ length (take (length d - nodes_place) (drop nodes_place d))
      → NodesChanged P d (put_mid nodes_place (length d - nodes_place) d p)
  nodes_changed P p h f =
      let l : length p ≡ nodes_length = f ∙ ap length nodes_lent ∙ field_length nodes_length d nodes_place (omega (arith, e)) in
      let w = nodes_written d p e l in
      record { name = w.name; nodes = subst (λ (x : List ℕ). P x (nodes_part (put_mid nodes_place (length d - nodes_place) d p))) nodes_lent (subst (P _) (sym w.nodes) h); long = w.long }

-- ---- the catalog
module _ (k : List ℕ) (e : length k ≡ catalog_length) where
  -- a table written anew, then the marks
  module _ (m row : List ℕ) (g : MetadataAllocatorState) (h₀ : MetadataAllocatorState) (f : length row ≡ marks_length) (r : marks_at row ≡ g) (v : h₀ ≡ marks_of m) where
    pub tablet_added : (t : TabletDescriptor) (n : List ℕ) → Added tablet_key tablet_row tablet_width tablet_room t true (tablets_part k) n → m ≡ put_mid tablets_place tablets_length k n
        → g ≡ raised_by_tablet t h₀ → TabletAdded t k (put_mid marks_place (length m - marks_place) m row)
    unfolding marks_of
    tablet_added t n h q u =
        let l : length n ≡ tablets_length = h.long ∙ field_length tablets_length k tablets_place (omega (arith, e)) in
        let a = subst (CatalogWritten _ _ _ _ _) (sym q) (tablets_written (as_it_is k e) n l) in
        let w = marks_written a row f in
        let x : marks_of m ≡ marks_of k = ap marks_at a.marks in
        record {
          tables = w.tables;
          tablets = subst (Added tablet_key tablet_row tablet_width tablet_room t true (tablets_part k)) (sym w.tablets) h;
          placements = w.placements;
          retirements = w.retirements;
          marks = ap marks_at w.marks ∙ r ∙ u ∙ ap (raised_by_tablet t) (v ∙ x);
          long = w.long ∙ sym e;
        }

    pub placement_put : (p : DesiredReplicaPlacement) (n : List ℕ) → Put placement_key placement_row placement_width tablet_room p (sound_placement p) (placements_part k) n → m ≡ put_mid placements_place placements_length k n
        → g ≡ raised_by_placement p h₀ → PlacementPut p k (put_mid marks_place (length m - marks_place) m row)
    unfolding marks_of
    placement_put p n h q u =
        let l : length n ≡ placements_length = h.long ∙ field_length placements_length k placements_place (omega (arith, e)) in
        let a = subst (CatalogWritten _ _ _ _ _) (sym q) (placements_written (as_it_is k e) n l) in
        let w = marks_written a row f in
        let x : marks_of m ≡ marks_of k = ap marks_at a.marks in
        record {
          tables = w.tables;
          tablets = w.tablets;
          placements = subst (Put placement_key placement_row placement_width tablet_room p (sound_placement p) (placements_part k)) (sym w.placements) h;
          retirements = w.retirements;
          marks = ap marks_at w.marks ∙ r ∙ u ∙ ap (raised_by_placement p) (v ∙ x);
          long = w.long ∙ sym e;
        }

  pub retirement_added : (x : RetiredReplicaLifetime) (n : List ℕ) → Added retirement_key retirement_row retirement_width retirement_room x true (retirements_part k) n
      → RetirementAdded x k (put_mid retirements_place retirements_length k n)
  unfolding marks_of
  retirement_added x n h =
      let l : length n ≡ retirements_length = h.long ∙ field_length retirements_length k retirements_place (omega (arith, e)) in
      let w = retirements_written (as_it_is k e) n l in
      record {
        tables = w.tables;
        tablets = w.tablets;
        placements = w.placements;
        retirements = subst (Added retirement_key retirement_row retirement_width retirement_room x true (retirements_part k)) (sym w.retirements) h;
        marks = ap marks_at w.marks;
        long = w.long ∙ sym e;
      }

-- ---- the block
module _ (b : List ℕ) (e : length b ≡ store_length) where
  pub directory_lent : length (directory_part b) ≡ directory_length
  directory_lent = field_length directory_length b 0 (omega (arith, e))

  pub directory_changed : (P : List ℕ → List ℕ → Type 0) (d : List ℕ) → P (directory_part b) d → length d ≡ length (directory_part b) → DirectoryChanged P b (d ++ drop directory_length b)
  directory_changed P d h g =
      let f : length d ≡ directory_length = g ∙ directory_lent in
      record {
        directory = subst (P (directory_part b)) (sym (take_at d (drop directory_length b) directory_length f)) h;
        catalog = ap (take catalog_length) (drop_at d (drop directory_length b) directory_length f);
        long = length-append d (drop directory_length b) ∙ omega (arith, length-drop directory_length b, e, f);
      }

  catalog_lent : take (length b - directory_length) (drop directory_length b) ≡ catalog_part b
  catalog_lent = tail_is directory_length catalog_length store_length b e refl

  pub catalog_long : length (take (length b - directory_length) (drop directory_length b)) ≡ catalog_length
  catalog_long = ap length catalog_lent ∙ field_length catalog_length b directory_length (omega (arith, e))

  pub catalog_changed : (P : List ℕ → List ℕ → Type 0) (k : List ℕ) → P (take (length b - directory_length) (drop directory_length b)) k
      → length k ≡ length (take (length b - directory_length) (drop directory_length b)) → CatalogChanged P b (put_mid directory_length (length b - directory_length) b k)
  catalog_changed P k h f =
      let q : length b - directory_length ≡ catalog_length = omega (arith, e) in
      let l : directory_length + catalog_length ≤ length b = omega (arith, e) in
      let h' : P (catalog_part b) k = subst (λ (x : List ℕ). P x k) catalog_lent h in
      let n : length k ≡ catalog_length = f ∙ catalog_long in
      rw q (record {
        directory = part_ahead directory_length catalog_length b k n l 0 directory_length (omega arith);
        catalog = subst (P (catalog_part b)) (sym (part_same directory_length catalog_length b k n l)) h';
        long = part_length directory_length catalog_length b k n l ∙ e;
      })
