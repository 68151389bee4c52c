-- What the test of rows says, and back: `rows_true`, `rows_pass`. Assumes nothing.
use Prim.Native.Nat.{ℕ, ◌≤◌}
use mathlib.Core.Path.{◌≡◌}
use mathlib.Core.Bool.{true}
use mathlib.Core.List.{List}
use lib.ListN.{length}
use borrow.Author.Tests.{leb-true, le-leb}
use Rattle.laws.specs.Keyed.{Keyed, Rising}
use Rattle.laws.specs.Lists.{All}
use Rattle.laws.proofs.KeyedLaws.{rising_true, rising_pass}
use Rattle.laws.proofs.ListLaws.{every-all, all-every, all_map, and_both, and_i}
use Rattle.laws.proofs.Tests.{each_of, all_of_lem}
use Rattle.metadata.specs.Rooms.{node_room, table_room, tablet_room, retirement_room}
use Rattle.metadata.specs.Tables.{node_key, table_key, tablet_key, placement_key, retirement_key, desired}
use Rattle.metadata.specs.Model.{StoreRows, DirectoryRows, CatalogRows}
use Rattle.metadata.specs.Sound.{sound_node, sound_tablet, sound_placement, sound_marks, sound_table, sound_directory, sound_catalog, sound_rows}
use Rattle.metadata.specs.declared.TabletDescriptor.{TabletDescriptor}
use Rattle.metadata.specs.declared.TableRow.{TableRow}
use Rattle.metadata.specs.declared.DesiredReplica.{DesiredReplica}
use Rattle.metadata.specs.declared.DesiredReplicaPlacement.{DesiredReplicaPlacement}
use Rattle.metadata.proofs.Soundness.{DirectorySound, CatalogSound, RowsSound}

module _ {A : Type 0} (T : Keyed A) (room : ℕ) (l : List A) where
  table_true : sound_table T room l ≡ true → (length l ≤ room) × Rising T l
  table_true e = let g = and_both _ _ e in (leb-true (length l) room g.0, rising_true T l g.1)

  pub table_pass : length l ≤ room → Rising T l → sound_table T room l ≡ true
  table_pass h a = and_i _ _ (le-leb (length l) room h) (rising_pass T l a)

-- ---- what the test says

marks_true : (c : CatalogRows) → sound_marks c ≡ true →
    All (λ (t : TableRow). t.table_id.0 ≤ c.marks.max_table_id) c.tables
    × (All (λ (t : TabletDescriptor). t.tablet_id.0 ≤ c.marks.max_tablet_id) c.tablets
    × (All (λ (t : TabletDescriptor). t.raft_group_id.0 ≤ c.marks.max_raft_group_id) c.tablets
    × All (λ (p : DesiredReplicaPlacement). All (λ (r : DesiredReplica). r.replica_id.0 ≤ c.marks.max_replica_id) (desired p)) c.placements))
unfolding sound_marks
marks_true c e =
    let g = each_of _ e in (
      all_map c.tables (λ t h. leb-true _ _ h) (every-all _ c.tables g.0),
      (
        all_map c.tablets (λ t h. leb-true _ _ h) (every-all _ c.tablets g.1.0),
        (
          all_map c.tablets (λ t h. leb-true _ _ h) (every-all _ c.tablets g.1.1.0),
          all_map c.placements (λ p h. all_map (desired p) (λ r f. leb-true _ _ f) (every-all _ (desired p) h)) (every-all _ c.placements g.1.1.1.0),
        ),
      ),
    )

directory_true : (d : DirectoryRows) → sound_directory d ≡ true → DirectorySound d
unfolding sound_directory
directory_true d e =
    let g = each_of _ e in
    let n = table_true node_key node_room d.nodes g.1.0 in
    record { name = g.0; nodes = n.1; node_room_lem = n.0; node_rows = every-all sound_node d.nodes g.1.1.0 }

catalog_true : (c : CatalogRows) → sound_catalog c ≡ true → CatalogSound c
unfolding sound_catalog
catalog_true c e =
    let g = each_of _ e in
    let a = table_true table_key table_room c.tables g.0 in
    let t = table_true tablet_key tablet_room c.tablets g.1.0 in
    let p = table_true placement_key tablet_room c.placements g.1.1.1.0 in
    let x = table_true retirement_key retirement_room c.retirements g.1.1.1.1.1.0 in
    let m = marks_true c g.1.1.1.1.1.1.0 in
    record {
      tables = a.1;
      table-room = a.0;
      tablets = t.1;
      tablet-room = t.0;
      tablet-rows = every-all sound_tablet c.tablets g.1.1.0;
      placements = p.1;
      placement-room = p.0;
      placement-rows = every-all sound_placement c.placements g.1.1.1.1.0;
      retirements = x.1;
      retirement-room = x.0;
      table_mark = m.0;
      tablet_mark = m.1.0;
      group_mark = m.1.1.0;
      replica_mark = m.1.1.1;
    }

pub rows_true : (s : StoreRows) → sound_rows s ≡ true → RowsSound s
unfolding sound_rows
rows_true s e = let g = each_of _ e in record { directory = directory_true s.directory g.0; catalog = catalog_true s.catalog g.1.0 }

-- ---- and back

marks_pass : (c : CatalogRows) → CatalogSound c → sound_marks c ≡ true
unfolding sound_marks
marks_pass c o =
    all_of_lem _ (
      all-every _ c.tables (all_map c.tables (λ t h. le-leb _ _ h) o.table_mark),
      (
        all-every _ c.tablets (all_map c.tablets (λ t h. le-leb _ _ h) o.tablet_mark),
        (
          all-every _ c.tablets (all_map c.tablets (λ t h. le-leb _ _ h) o.group_mark),
          (all-every _ c.placements (all_map c.placements (λ p h. all-every _ (desired p) (all_map (desired p) (λ r f. le-leb _ _ f) h)) o.replica_mark), tt),
        ),
      ),
    )

directory_pass : (d : DirectoryRows) → DirectorySound d → sound_directory d ≡ true
unfolding sound_directory
directory_pass d o =
    all_of_lem _ (o.name, (table_pass node_key node_room d.nodes o.node_room_lem o.nodes, (all-every sound_node d.nodes o.node_rows, tt)))

catalog_pass : (c : CatalogRows) → CatalogSound c → sound_catalog c ≡ true
unfolding sound_catalog
catalog_pass c o =
    all_of_lem _ (
      table_pass table_key table_room c.tables o.table-room o.tables,
      (
        table_pass tablet_key tablet_room c.tablets o.tablet-room o.tablets,
        (
          all-every sound_tablet c.tablets o.tablet-rows,
          (
            table_pass placement_key tablet_room c.placements o.placement-room o.placements,
            (
              all-every sound_placement c.placements o.placement-rows,
              (table_pass retirement_key retirement_room c.retirements o.retirement-room o.retirements, (marks_pass c o, tt)),
            ),
          ),
        ),
      ),
    )

pub rows_pass : (s : StoreRows) → RowsSound s → sound_rows s ≡ true
unfolding sound_rows
rows_pass s o = all_of_lem _ (directory_pass s.directory o.directory, (catalog_pass s.catalog o.catalog, tt))
