-- What an Applied command leaves of a sound block: the rows that the definition says, with zeros behind those in use. Assumes nothing.
use Rattle.text.specs.Texts as W
use Rattle.std.specs.Prelude.{◌≡◌, ◌≢◌, ℕ, true, List, length}
use Rattle.std.proofs.Common.{refl, sym, ap, ◌∙◌, arith, eqb-true, leb-true}
use Rattle.std.proofs.lemmas.Bool.{not-false}
use Rattle.changes.specs.Changes.{Moved, Registered}
use Rattle.commits.specs.Commits.{NameGiven, NodesChanged, TabletAdded, PlacementPut, RetirementAdded, DirectoryChanged, CatalogChanged, Committed}
use Rattle.encode.specs.Widths.{node_width, table_width, tablet_width, placement_width, retirement_width}
use Rattle.laws.proofs.KeyedLaws.{put_insert}
use Rattle.laws.proofs.ListLaws.{and_both}
use Rattle.laws.proofs.Tests.{each_of, all_of_lem}
use Rattle.layout.specs.Layout.{directory_part, catalog_part, directory_of, catalog_of, nodes_part, nodes_in, tables_in, tablets_in, placements_in, retirements_in, name_of, store_of, tidy_directory, tidy_catalog, sound}
use Rattle.layout.specs.Places.{store_length}
use Rattle.metadata.proofs.AdmittedRows.{named-fits, node_sound, placement-sound}
use Rattle.metadata.proofs.Guards.{passes, fault_free, lifecycle-moves, registers, tableds, places, retires}
use Rattle.metadata.proofs.SoundRows.{rows_true}
use Rattle.metadata.proofs.Soundness.{RowsSound}
use Rattle.metadata.specs.Answers.{is_applied}
use Rattle.metadata.specs.Commands.{lowest, naming_faults}
use Rattle.metadata.specs.Model.{CatalogRows, apply, decide}
use Rattle.metadata.specs.Nodes.{moved_nodes, registered_nodes}
use Rattle.metadata.specs.Rooms.{node_room, table_room, tablet_room, retirement_room}
use Rattle.metadata.specs.Sound.{sound_rows}
use Rattle.metadata.specs.Tables.{tablet_key, retirement_key}
use Rattle.metadata.specs.Tablets.{is_replica_retired}
use Rattle.metadata.specs.Texts.{Name, OptionalName}
use Rattle.metadata.specs.declared.Command.{Command}
use Rattle.metadata.specs.declared.Command.TheVariants.{Naming as naming, Registering as registering, Lifecycle as lifecycle, Tablet as tablet, Placement as placement, Retirement as retirement, Picking as picking}
use Rattle.metadata.specs.declared.DesiredReplicaPlacement.{DesiredReplicaPlacement}
use Rattle.metadata.specs.declared.NodeDescriptor.{NodeDescriptor}
use Rattle.metadata.specs.declared.NodeId.{NodeId}
use Rattle.metadata.specs.declared.RetiredReplicaLifetime.{RetiredReplicaLifetime}
use Rattle.metadata.specs.declared.TabletDescriptor.{TabletDescriptor}
use Rattle.tables.specs.Rows.{tidy}

-- an admitted name has a byte
name_there : (t : Name) → lowest (naming_faults t) ≡ 0 → t.len ≢ 0
unfolding W.text_admitted
name_there t e z =
    let a = not-false _ (fault_free 2 _ _ e (λ q. omega arith)).0 in
    let g = (and_both _ _ (and_both _ _ a).0).0 in
    omega (arith, leb-true 1 t.len g, z)

-- ---- what a sound block is
module _ (b : List ℕ) (e : sound b ≡ true) where
  pub sound_long : length b ≡ store_length
  unfolding sound
  sound_long = eqb-true _ _ (each_of _ e).0

  sound_tidy : (tidy_directory (directory_part b) ≡ true) × (tidy_catalog (catalog_part b) ≡ true)
  unfolding sound
  sound_tidy = let g = each_of _ e in (g.1.0, g.1.1.0)

  pub sound_store : sound_rows (store_of b) ≡ true
  unfolding sound
  sound_store = (each_of _ e).1.1.1.0

  rows_in : RowsSound (store_of b)
  rows_in = rows_true (store_of b) sound_store

module _ (b b' : List ℕ) (e : sound b ≡ true) where
  -- ---- the directory changed
  module _ (P : List ℕ → List ℕ → Type 0) (c : DirectoryChanged P b b') (name : OptionalName) (nodes : List NodeDescriptor) where
    directory_left : name_of (directory_part b') ≡ name → nodes_in (nodes_part (directory_part b')) ≡ nodes → tidy node_width node_room (nodes_part (directory_part b')) ≡ true
        → Committed (record { directory = record { name = name; nodes = nodes }; catalog = (store_of b).catalog }) b'
    unfolding store_of tidy_directory
    directory_left p q t =
        record {
          rows = λ i. record { directory = record { name = p i; nodes = q i }; catalog = catalog_of (c.catalog i) };
          directory = t;
          catalog = ap tidy_catalog c.catalog ∙ (sound_tidy b e).1;
          long = c.long;
        }

  tidy_nodes : tidy node_width node_room (nodes_part (directory_part b)) ≡ true
  unfolding tidy_directory
  tidy_nodes = (sound_tidy b e).0

  pub naming_left : (t : Name) → is_applied (decide (store_of b) (naming t)) ≡ true → DirectoryChanged (NameGiven (record { present = true; text = t })) b b' → Committed (apply (store_of b) (naming t)) b'
  unfolding store_of
  naming_left t a c =
      let f = (passes (store_of b) (naming t) a).0 in
      let d = c.directory in
      directory_left _ c (record { present = true; text = t }) (store_of b).directory.nodes (d.name (named-fits t f) (name_there t f)) (ap nodes_in d.nodes)
      (ap (tidy node_width node_room) d.nodes ∙ tidy_nodes)

  pub registering_left : (n : NodeDescriptor) → is_applied (decide (store_of b) (registering n)) ≡ true → DirectoryChanged (NodesChanged (Registered n)) b b' → Committed (apply (store_of b) (registering n)) b'
  unfolding store_of
  registering_left n a c =
      let f = passes (store_of b) (registering n) a in
      let g = registers (store_of b) n f.1 in
      let d = c.directory in
      directory_left _ c (store_of b).directory.name (registered_nodes n (store_of b).directory.nodes) d.name
      (d.nodes.rows (node_sound n f.0) (rows_in b e).directory.nodes (λ h. (g.fresh h).room)) (d.nodes.tidies tidy_nodes)

  pub lifecycle_left : (k : NodeId) (to : ℕ) → is_applied (decide (store_of b) (lifecycle k to)) ≡ true → DirectoryChanged (NodesChanged (Moved k to)) b b' → Committed (apply (store_of b) (lifecycle k to)) b'
  unfolding store_of
  lifecycle_left k to a c =
      let f = passes (store_of b) (lifecycle k to) a in
      let g = lifecycle-moves (store_of b) k to f.1 in
      let d = c.directory in
      directory_left _ c (store_of b).directory.name (moved_nodes k to (store_of b).directory.nodes) d.name
      (d.nodes.rows (rows_in b e).directory.nodes g.known) (d.nodes.tidies tidy_nodes)

  -- ---- the catalog changed
  module _ (P : List ℕ → List ℕ → Type 0) (c : CatalogChanged P b b') (next : CatalogRows) where
    catalog_left : catalog_of (catalog_part b') ≡ next → tidy_catalog (catalog_part b') ≡ true → Committed (record { directory = (store_of b).directory; catalog = next }) b'
    unfolding store_of
    catalog_left p t =
        record {
          rows = λ i. record { directory = directory_of (c.directory i); catalog = p i };
          directory = ap tidy_directory c.directory ∙ (sound_tidy b e).0;
          catalog = t;
          long = c.long;
        }

  pub tablet_left : (t : TabletDescriptor) → is_applied (decide (store_of b) (tablet t)) ≡ true → CatalogChanged (TabletAdded t) b b' → Committed (apply (store_of b) (tablet t)) b'
  unfolding store_of tidy_catalog
  tablet_left t a c =
      let f = passes (store_of b) (tablet t) a in
      let g = tableds (store_of b).catalog.tables (store_of b).catalog.tablets t f.1 in
      let d = c.catalog in
      let o = each_of _ (sound_tidy b e).1 in
      let r = d.tablets.rows refl g.room ∙ sym (put_insert tablet_key t (store_of b).catalog.tablets g.fresh) in
      catalog_left _ c (apply (store_of b) (tablet t)).catalog
      (λ i. record { tables = tables_in (d.tables i); tablets = r i; placements = placements_in (d.placements i); retirements = retirements_in (d.retirements i); marks = d.marks i })
      (all_of_lem _ (
        ap (tidy table_width table_room) d.tables ∙ o.0,
        (d.tablets.tidies o.1.0, (ap (tidy placement_width tablet_room) d.placements ∙ o.1.1.0, (ap (tidy retirement_width retirement_room) d.retirements ∙ o.1.1.1.0, tt))),
      ))

  pub placement_left : (p : DesiredReplicaPlacement) → is_applied (decide (store_of b) (placement p)) ≡ true → CatalogChanged (PlacementPut p) b b' → Committed (apply (store_of b) (placement p)) b'
  unfolding store_of tidy_catalog
  placement_left p a c =
      let f = passes (store_of b) (placement p) a in
      let g = places (store_of b) p f.1 in
      let d = c.catalog in
      let o = each_of _ (sound_tidy b e).1 in
      let r = d.placements.rows (placement-sound p f.0) (rows_in b e).catalog.placements g.room in
      catalog_left _ c (apply (store_of b) (placement p)).catalog
      (λ i. record { tables = tables_in (d.tables i); tablets = tablets_in (d.tablets i); placements = r i; retirements = retirements_in (d.retirements i); marks = d.marks i })
      (all_of_lem _ (
        ap (tidy table_width table_room) d.tables ∙ o.0,
        (ap (tidy tablet_width tablet_room) d.tablets ∙ o.1.0, (d.placements.tidies o.1.1.0, (ap (tidy retirement_width retirement_room) d.retirements ∙ o.1.1.1.0, tt))),
      ))

  pub retirement_left : (x : RetiredReplicaLifetime) → is_applied (decide (store_of b) (retirement x)) ≡ true → CatalogChanged (RetirementAdded x) b b' → Committed (apply (store_of b) (retirement x)) b'
  unfolding store_of tidy_catalog is_replica_retired
  retirement_left x a c =
      let f = passes (store_of b) (retirement x) a in
      let g = retires (store_of b) x f.1 in
      let d = c.catalog in
      let o = each_of _ (sound_tidy b e).1 in
      let r = d.retirements.rows refl g.room ∙ sym (put_insert retirement_key x (store_of b).catalog.retirements g.fresh) in
      catalog_left _ c (apply (store_of b) (retirement x)).catalog
      (λ i. record { tables = tables_in (d.tables i); tablets = tablets_in (d.tablets i); placements = placements_in (d.placements i); retirements = r i; marks = d.marks i })
      (all_of_lem _ (
        ap (tidy table_width table_room) d.tables ∙ o.0,
        (ap (tidy tablet_width tablet_room) d.tablets ∙ o.1.0, (ap (tidy placement_width tablet_room) d.placements ∙ o.1.1.0, (d.retirements.tidies o.1.1.1.0, tt))),
      ))

-- picking leaves the block as it was
pub picking_left : (b : List ℕ) → sound b ≡ true → Committed (apply (store_of b) picking) b
picking_left b e = record { rows = refl; directory = (sound_tidy b e).0; catalog = (sound_tidy b e).1; long = sound_long b e }

-- the same of a command that is known by its form
module _ (b b' : List ℕ) (c d : Command) (q : c ≡ d) where
  pub by_form : (is_applied (decide (store_of b) d) ≡ true → Committed (apply (store_of b) d) b') → is_applied (decide (store_of b) c) ≡ true → Committed (apply (store_of b) c) b'
  by_form f a = rw q (f (rw q at a))
