-- The model's step and the history's are two texts; on sound rows they say the same: `agrees`. Assumes nothing.
use Prim.Native.Nat.{ℕ, max, ◌≤◌}
use native.Mathlib.Omega.{arith}
use native.Mathlib.Nat.{max-zero, max-le, le-max_left, le-max_right}
use mathlib.Core.Path.{◌≡◌, refl, ap, sym, ◌∙◌}
use mathlib.Core.Bool.{Bool, true, false, cond, ◌||◌}
use mathlib.Core.List.{List, [], ◌∷◌, map}
use lib.Dec.{eqb}
use borrow.Author.Tests.{eq-eqb}
use Rattle.laws.specs.Keyed.{has, put, Rising}
use Rattle.laws.proofs.KeyedLaws.{row-key, put_insert, put-others, put_map}
use Rattle.metadata.specs.Marks.{highest}
use Rattle.metadata.specs.Answers.{is_applied}
use Rattle.metadata.specs.Tables.{node_key, tablet_key, placement_key, retirement_key, node_of, blank_node, desired, with_lifecycle}
use Rattle.metadata.specs.Commands.{Command, naming, registering, lifecycle, tablet, placement, retirement, picking}
use Rattle.metadata.specs.Nodes.{moved_nodes, registered_nodes}
use Rattle.metadata.specs.Tablets.{is_replica_retired}
use Rattle.metadata.specs.Model.{StoreRows, decide, apply}
use Rattle.metadata.specs.History.{History, added, largest, set_lifecycle, is_registered, with_nodes, after_lifecycle, after_registering, after_tablet, after_placement, after_retirement, after}
use Rattle.metadata.specs.declared.NodeDescriptor.{NodeDescriptor}
use Rattle.metadata.specs.declared.NodeId.{NodeId}
use Rattle.metadata.specs.declared.TabletDescriptor.{TabletDescriptor}
use Rattle.metadata.specs.declared.DesiredReplica.{DesiredReplica}
use Rattle.metadata.specs.declared.DesiredReplicaPlacement.{DesiredReplicaPlacement}
use Rattle.metadata.specs.declared.RetiredReplicaLifetime.{RetiredReplicaLifetime}
use Rattle.metadata.proofs.Guards.{passes, lifecycle-moves, registers, Registers, tableds, retires}
use Rattle.metadata.proofs.Soundness.{RowsSound}

-- the rows as a history has them
abbrev pub as_history : StoreRows → History
as_history s =
    record {
      name = s.directory.name;
      nodes = s.directory.nodes;
      tables = s.catalog.tables;
      tablets = s.catalog.tablets;
      placements = s.catalog.placements;
      retirements = s.catalog.retirements;
      marks = s.catalog.marks;
    }

-- ---- marks

max_assoc : (a b c : ℕ) → max (max a b) c ≡ max a (max b c)
max_assoc a b c =
    let u : max (max a b) c ≤ max a (max b c) =
    max-le (max-le (le-max_left a (max b c)) (omega (arith, le-max_left b c, le-max_right a (max b c)))) (omega (arith, le-max_right b c, le-max_right a (max b c))) in
    let v : max a (max b c) ≤ max (max a b) c =
    max-le (omega (arith, le-max_left a b, le-max_left (max a b) c)) (max-le (omega (arith, le-max_right a b, le-max_left (max a b) c)) (le-max_right (max a b) c)) in
    omega arith

-- raised one by one, or to the largest at once
pub highest-largest : {A : Type 0} (f : A → ℕ) (l : List A) (m : ℕ) → highest f l m ≡ max m (largest (map f l))
highest-largest f [] m = sym (max-zero m)
highest-largest f (x ∷ l) m = highest-largest f l (max m (f x)) ∙ max_assoc m (f x) (largest (map f l))

-- ---- nodes

same_id : (x : NodeDescriptor) (to : ℕ) (t : Bool) → (cond t (with_lifecycle x to) x).node_id.0 ≡ x.node_id.0
same_id x to true = refl
same_id x to false = refl

moved_is : (nodes : List NodeDescriptor) (k : NodeId) (to : ℕ) → Rising node_key nodes → has node_key k.0 nodes ≡ true → moved_nodes k to nodes ≡ map (set_lifecycle k.0 to) nodes
unfolding moved_nodes
moved_is nodes k to o h =
    ap (λ (n : NodeDescriptor). put node_key n nodes) same
    ∙ put_map node_key (set_lifecycle k.0 to) k.0 (λ x. same_id x to (eqb x.node_id.0 k.0)) (λ x e. rest x e) blank_node nodes o h
  where
    same : with_lifecycle (node_of k.0 nodes) to ≡ set_lifecycle k.0 to (node_of k.0 nodes)
    same = rw (eq-eqb (node_of k.0 nodes).node_id.0 k.0 (row-key node_key blank_node k.0 nodes h))

    rest : (x : NodeDescriptor) → eqb x.node_id.0 k.0 ≡ false → set_lifecycle k.0 to x ≡ x
    rest x e = rw e

registered-has : (k : ℕ) (nodes : List NodeDescriptor) → is_registered k nodes ≡ has node_key k nodes
registered-has k [] = refl
registered-has k (n ∷ l) = rw (registered-has k l) (go (eqb n.node_id.0 k) (has node_key k l))
  where
    go : (a b : Bool) → (a || b) ≡ cond a true b
    go true b = refl
    go false b = refl

registered_go : (s : StoreRows) (n : NodeDescriptor) (t : Bool) → has node_key n.node_id.0 s.directory.nodes ≡ t → RowsSound s → Registers s n →
    as_history (record { directory = record { name = s.directory.name; nodes = cond t (moved_nodes n.node_id n.lifecycle s.directory.nodes) (put node_key n s.directory.nodes) }; catalog = s.catalog })
    ≡ cond t (after_lifecycle n.node_id.0 n.lifecycle (as_history s)) (with_nodes (added node_key n s.directory.nodes) (as_history s))
registered_go s n true e o g =
    ap (λ (l : List NodeDescriptor). with_nodes l (as_history s)) (moved_is s.directory.nodes n.node_id n.lifecycle o.directory.nodes e)
registered_go s n false e o g = ap (λ (l : List NodeDescriptor). with_nodes l (as_history s)) (put_insert node_key n s.directory.nodes e)

registered_is : (s : StoreRows) (n : NodeDescriptor) → RowsSound s → Registers s n → as_history (apply s (registering n)) ≡ after_registering n (as_history s)
unfolding registered_nodes
registered_is s n o g =
    registered_go s n (has node_key n.node_id.0 s.directory.nodes) refl o g
    ∙ ap (λ (t : Bool). cond t (after_lifecycle n.node_id.0 n.lifecycle (as_history s)) (with_nodes (added node_key n s.directory.nodes) (as_history s)))
    (sym (registered-has n.node_id.0 s.directory.nodes))

-- ---- the catalog

tabled_is : (s : StoreRows) (t : TabletDescriptor) → has tablet_key t.tablet_id.0 s.catalog.tablets ≡ false → as_history (apply s (tablet t)) ≡ after_tablet t (as_history s)
tabled_is s t f =
    let p : put tablet_key t s.catalog.tablets ≡ added tablet_key t s.catalog.tablets = put_insert tablet_key t s.catalog.tablets f in
    let q : t.tablet_id.0 ≡ max t.tablet_id.0 0 = sym (max-zero t.tablet_id.0) in
    let r : t.raft_group_id.0 ≡ max t.raft_group_id.0 0 = sym (max-zero t.raft_group_id.0) in
    λ i.
    record {
      name = s.directory.name;
      nodes = s.directory.nodes;
      tables = s.catalog.tables;
      tablets = p i;
      placements = s.catalog.placements;
      retirements = s.catalog.retirements;
      marks =
          record {
            max_table_id = s.catalog.marks.max_table_id;
            max_tablet_id = max s.catalog.marks.max_tablet_id (q i);
            max_raft_group_id = max s.catalog.marks.max_raft_group_id (r i);
            max_replica_id = s.catalog.marks.max_replica_id;
          };
    }

placed_is : (s : StoreRows) (p : DesiredReplicaPlacement) → RowsSound s → as_history (apply s (placement p)) ≡ after_placement p (as_history s)
placed_is s p o =
    let e = put-others placement_key p s.catalog.placements o.catalog.placements in
    let m = highest-largest (λ (r : DesiredReplica). r.replica_id.0) (desired p) s.catalog.marks.max_replica_id in
    λ i.
    record {
      name = s.directory.name;
      nodes = s.directory.nodes;
      tables = s.catalog.tables;
      tablets = s.catalog.tablets;
      placements = e i;
      retirements = s.catalog.retirements;
      marks =
          record {
            max_table_id = s.catalog.marks.max_table_id;
            max_tablet_id = s.catalog.marks.max_tablet_id;
            max_raft_group_id = s.catalog.marks.max_raft_group_id;
            max_replica_id = m i;
          };
    }

retired_is : (s : StoreRows) (x : RetiredReplicaLifetime) → is_replica_retired x.raft_group_id.0 x.replica_id.0 s.catalog.retirements ≡ false →
    as_history (apply s (retirement x)) ≡ after_retirement x (as_history s)
unfolding is_replica_retired
retired_is s x f =
    let e : put retirement_key x s.catalog.retirements ≡ added retirement_key x s.catalog.retirements = put_insert retirement_key x s.catalog.retirements f in
    λ i.
    record {
      name = s.directory.name;
      nodes = s.directory.nodes;
      tables = s.catalog.tables;
      tablets = s.catalog.tablets;
      placements = s.catalog.placements;
      retirements = e i;
      marks = s.catalog.marks;
    }

-- ---- every Applied command

pub agrees : (s : StoreRows) (c : Command) → RowsSound s → is_applied (decide s c) ≡ true → as_history (apply s c) ≡ after (as_history s) c
agrees s (naming t) o e = refl
agrees s (registering n) o e = registered_is s n o (registers s n (passes s (registering n) e).1)
agrees s (lifecycle k to) o e =
    ap (λ (l : List NodeDescriptor). with_nodes l (as_history s))
    (moved_is s.directory.nodes k to o.directory.nodes (lifecycle-moves s k to (passes s (lifecycle k to) e).1).known)
agrees s (tablet t) o e = tabled_is s t (tableds s.catalog.tables s.catalog.tablets t (passes s (tablet t) e).1).fresh
agrees s (placement p) o e = placed_is s p o
agrees s (retirement x) o e = retired_is s x (retires s x (passes s (retirement x) e).1).fresh
agrees s picking o e = refl
