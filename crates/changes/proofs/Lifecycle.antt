-- A node's row with another lifecycle, and the nodes with it. Assumes nothing.
use Rattle.std.specs.Prelude.{ℕ, ◌≡◌, ◌+◌, ◌-◌, ◌≤◌, ◌<◌, true, false, List, length, map, take, drop, set, get_or, Option, Some, None}
use Rattle.std.proofs.Common.{refl, sym, ap, ◌∙◌, arith, take_all}
use Rattle.std.proofs.lemmas.List.{take-set-le, drop-set-add, get_or-set_same, get_or-set_other, get_or-map, length-map}
use Rattle.laws.specs.Bytes.{field_at, byte_at}
use Rattle.laws.specs.Keyed.{has}
use Rattle.laws.specs.Rows.{find_index}
use Rattle.laws.proofs.KeyedLaws.{row-key, put_insert}
use Rattle.laws.proofs.ListLaws.{never}
use Rattle.laws.proofs.Lookups.{spot, found_none}
use Rattle.tables.specs.Rows.{under, rows_of, Replaced}
use Rattle.tables.proofs.Put.{said_again, tidy_again}
use Rattle.encode.specs.Widths.{node_width}
use Rattle.layout.specs.Layout.{nodes_in}
use Rattle.metadata.specs.Nodes.{moved_nodes, registered_nodes}
use Rattle.metadata.specs.Rooms.{node_room}
use Rattle.metadata.specs.Sound.{sound_node}
use Rattle.metadata.specs.Tables.{node_key, node_of, blank_node, with_lifecycle}
use Rattle.metadata.specs.declared.NodeDescriptor.{NodeDescriptor}
use Rattle.metadata.specs.declared.NodeId.{NodeId}
use Rattle.rows.specs.Rows.{node_row}
use Rattle.changes.specs.Changes.{Added, Moved, Registered}
use Rattle.changes.proofs.Changed.{found_some, said_set}

-- a field before the byte that was set
field_before : (n a i : ℕ) (l : List ℕ) (v : ℕ) → a + n ≤ i → field_at n (set l i v) a ≡ field_at n l a
field_before n a i l v h =
    let q : a + (i - a) ≡ i = omega arith in
    ap (λ (j : ℕ). take n (drop a (set l j v))) (sym q) ∙ ap (take n) (drop-set-add a l (i - a) v) ∙ take-set-le n (drop a l) (i - a) v (omega arith)

byte_before : (a i : ℕ) (l : List ℕ) (v : ℕ) → a < i → byte_at (set l i v) a ≡ byte_at l a
byte_before a i l v h = get_or-set_other l i a v 0 (λ q. absurd (omega (arith, q)))

pub lifecycle_set : (l : List ℕ) (to : ℕ) → length l ≡ node_width → node_row (set l 304 to) ≡ with_lifecycle (node_row l) to
lifecycle_set l to e =
    let f : (n a : ℕ) → a + n ≤ 304 → field_at n (set l 304 to) a ≡ field_at n l a = (λ n a h. field_before n a 304 l to h) in
    let b : (a : ℕ) → a < 304 → byte_at (set l 304 to) a ≡ byte_at l a = (λ a h. byte_before a 304 l to h) in
    rw (
      f 8 0 (omega arith),
      b 8 (omega arith),
      f 48 9 (omega arith),
      b 57 (omega arith),
      f 48 58 (omega arith),
      b 106 (omega arith),
      f 48 107 (omega arith),
      b 155 (omega arith),
      f 48 156 (omega arith),
      b 204 (omega arith),
      f 24 205 (omega arith),
      b 229 (omega arith),
      f 24 230 (omega arith),
      b 254 (omega arith),
      f 24 255 (omega arith),
      b 279 (omega arith),
      f 24 280 (omega arith),
      get_or-set_same l 304 to 0 (omega (arith, e)),
    )
    refl

module _ (k : NodeId) (to at : ℕ) (row old t t' : List ℕ) (u : List (List ℕ)) (s : u ≡ rows_of node_width node_room t) (p : Some at ≡ find_index (under node_key k.0) (map node_row u)) where
  abbrev nodes : List NodeDescriptor
  nodes = nodes_in t

  abbrev next : NodeDescriptor
  next = with_lifecycle (node_of k.0 nodes) to

  place : find_index (under node_key k.0) nodes ≡ Some at
  place = sym (p ∙ ap (λ (l : List (List ℕ)). find_index (under node_key k.0) (map node_row l)) s)

  module _ (d : List ℕ) (e : length row ≡ node_width) (o : old ≡ get_or u at d) (r : node_row row ≡ with_lifecycle (node_row old) to) (i : Replaced (length row) node_room at row t t') where
    is_next : node_row row ≡ next
    is_next =
        let a : take (length nodes) nodes ≡ nodes = take_all (length nodes) nodes (omega arith) in
        let g = spot node_key k.0 blank_node (node_row d) nodes (length nodes) at (rw a place) in
        let v : node_of k.0 nodes ≡ get_or nodes at (node_row d) = rw a at g.value in
        let m : get_or nodes at (node_row d) ≡ node_row (get_or u at d) =
        get_or-map node_row (rows_of node_width node_room t) at d (node_row d) (omega (arith, g.inside, length-map (rows_of node_width node_room t) node_row)) ∙ ap (λ (l : List (List ℕ)). node_row (get_or l at d)) (sym s) in
        r ∙ ap (λ (x : NodeDescriptor). with_lifecycle x to) (ap node_row o ∙ sym (v ∙ m))

    -- the same by its place
    is_moved : node_row row ≡ with_lifecycle (get_or nodes at blank_node) to
    is_moved =
        let a : take (length nodes) nodes ≡ nodes = take_all (length nodes) nodes (omega arith) in
        let v : node_of k.0 nodes ≡ get_or nodes at blank_node = rw a at (spot node_key k.0 blank_node blank_node nodes (length nodes) at (rw a place)).value in
        is_next ∙ ap (λ (x : NodeDescriptor). with_lifecycle x to) v

    pub moves : Moved k to t t'
    unfolding moved_nodes
    moves =
        record {
          rows = λ rising known.
              let q : next.node_id.0 ≡ k.0 = row-key node_key blank_node k.0 nodes known in
              said_again node_key node_row node_width node_room at next row t t' e (ap (λ (i : ℕ). find_index (under node_key i) nodes) q ∙ place) i is_next rising;
          known = λ j h.
              let q : at ≡ j = cc (place, h) in
              said_set node_key node_row node_width node_room at (with_lifecycle (get_or nodes at blank_node) to) row t t' e i is_moved
              ∙ ap (λ (n : ℕ). set nodes n (with_lifecycle (get_or nodes n blank_node) to)) q;
          unknown = λ h. absurd (never _ (found_some node_key k.0 nodes at place) h);
          tidies = tidy_again node_key node_row node_width node_room at next row t t' e i;
          long = i.long;
        }

-- no node has the id
pub stays : (k : NodeId) (to : ℕ) (t : List ℕ) (u : List (List ℕ)) → u ≡ rows_of node_width node_room t → None ≡ find_index (under node_key k.0) (map node_row u) → Moved k to t t
stays k to t u s p =
    let none : find_index (under node_key k.0) (nodes_in t) ≡ None = sym (p ∙ ap (λ (l : List (List ℕ)). find_index (under node_key k.0) (map node_row l)) s) in
    let n : has node_key k.0 (nodes_in t) ≡ false = found_none node_key k.0 (nodes_in t) none in
    record {
      rows = λ rising known. absurd (never _ known n);
      known = λ i h. absurd (cc (none, h));
      unknown = λ h. refl;
      tidies = λ h. h;
      long = refl;
    }

-- ---- registering
module _ (n : NodeDescriptor) (t t' : List ℕ) (u : List (List ℕ)) (s : u ≡ rows_of node_width node_room t) where
  found_here : {o : Option ℕ} → o ≡ find_index (under node_key n.node_id.0) (map node_row u) → find_index (under node_key n.node_id.0) (nodes_in t) ≡ o
  found_here p = sym (p ∙ ap (λ (l : List (List ℕ)). find_index (under node_key n.node_id.0) (map node_row l)) s)

  -- a node that is known
  pub registered_known : (at : ℕ) → Some at ≡ find_index (under node_key n.node_id.0) (map node_row u) → Moved n.node_id n.lifecycle t t' → Registered n t t'
  unfolding registered_nodes
  registered_known at p m =
      let h : has node_key n.node_id.0 (nodes_in t) ≡ true = found_some node_key n.node_id.0 (nodes_in t) at (found_here p) in
      record {
        rows = λ fits rising room. m.rows rising h ∙ rw h;
        known = m.known;
        new = λ fits absent room. absurd (never _ h absent);
        full = λ absent room. absurd (never _ h absent);
        tidies = m.tidies;
        long = m.long;
      }

  -- a new one
  pub registered_new : None ≡ find_index (under node_key n.node_id.0) (map node_row u) → Added node_key node_row node_width node_room n (sound_node n) t t' → Registered n t t'
  unfolding registered_nodes
  registered_new p m =
      let h : has node_key n.node_id.0 (nodes_in t) ≡ false = found_none node_key n.node_id.0 (nodes_in t) (found_here p) in
      record {
        rows = λ fits rising room. m.rows fits (room h) ∙ sym (rw h (put_insert node_key n (nodes_in t) h));
        known = λ i q. absurd (cc (found_here p, q));
        new = λ fits absent room. m.rows fits room;
        full = λ absent room. m.full room;
        tidies = m.tidies;
        long = m.long;
      }
