-- What the part of a table is after a change of one row: said by what the rows say. Assumes nothing.
use Rattle.std.specs.Prelude.{ℕ, ◌≡◌, ◌<◌, ◌≤◌, Bool, true, false, List, length, map, set, get_or, Some}
use Rattle.laws.specs.Keyed.{Keyed, before, has, put, Rising}
use Rattle.laws.specs.Rows.{find_index, insert_by}
use Rattle.tables.specs.Rows.{under, rows_of, tidy}
use Rattle.layout.specs.Layout.{nodes_in}
use Rattle.encode.specs.Widths.{node_width}
use Rattle.metadata.specs.Nodes.{moved_nodes, registered_nodes}
use Rattle.metadata.specs.Rooms.{node_room}
use Rattle.metadata.specs.Sound.{sound_node}
use Rattle.metadata.specs.Tables.{node_key, blank_node, with_lifecycle}
use Rattle.metadata.specs.declared.NodeDescriptor.{NodeDescriptor}
use Rattle.metadata.specs.declared.NodeId.{NodeId}

-- ---- over any kind of table: f reads a row of w bytes; x is read back from its bytes where it fits

-- x stands at its place among the rows, where there was room; without room the part is as it was
pub record Added {A : Type 0} (T : Keyed A) (f : List ℕ → A) (w room : ℕ) (x : A) (fits : Bool) (t t' : List ℕ) : Type 0 where
  pub rows : fits ≡ true → length (map f (rows_of w room t)) < room → map f (rows_of w room t') ≡ insert_by (before T) x (map f (rows_of w room t))
  pub full : room ≤ length (map f (rows_of w room t)) → t' ≡ t
  pub tidies : tidy w room t ≡ true → tidy w room t' ≡ true
  pub long : length t' ≡ length t

-- x stands in the place of the first row with its key, or at its own, where there was room; where its key is new and there is no room, the part is as it was. Only `rows` asks that they rise
pub record Put {A : Type 0} (T : Keyed A) (f : List ℕ → A) (w room : ℕ) (x : A) (fits : Bool) (t t' : List ℕ) : Type 0 where
  pub rows : fits ≡ true → Rising T (map f (rows_of w room t)) → (has T (T.key x) (map f (rows_of w room t)) ≡ false → length (map f (rows_of w room t)) < room)
      → map f (rows_of w room t') ≡ put T x (map f (rows_of w room t))
  pub again : fits ≡ true → (i : ℕ) → find_index (under T (T.key x)) (map f (rows_of w room t)) ≡ Some i → map f (rows_of w room t') ≡ set (map f (rows_of w room t)) i x
  pub new : fits ≡ true → has T (T.key x) (map f (rows_of w room t)) ≡ false → length (map f (rows_of w room t)) < room
      → map f (rows_of w room t') ≡ insert_by (before T) x (map f (rows_of w room t))
  pub full : has T (T.key x) (map f (rows_of w room t)) ≡ false → room ≤ length (map f (rows_of w room t)) → t' ≡ t
  pub tidies : tidy w room t ≡ true → tidy w room t' ≡ true
  pub long : length t' ≡ length t

-- ---- the nodes

-- the first node under an id moved on; where there is none, the part is as it was. Only `rows` asks that the nodes rise
pub record Moved (k : NodeId) (to : ℕ) (t t' : List ℕ) : Type 0 where
  pub rows : Rising node_key (nodes_in t) → has node_key k.0 (nodes_in t) ≡ true → nodes_in t' ≡ moved_nodes k to (nodes_in t)
  pub known : (i : ℕ) → find_index (under node_key k.0) (nodes_in t) ≡ Some i → nodes_in t' ≡ set (nodes_in t) i (with_lifecycle (get_or (nodes_in t) i blank_node) to)
  pub unknown : has node_key k.0 (nodes_in t) ≡ false → t' ≡ t
  pub tidies : tidy node_width node_room t ≡ true → tidy node_width node_room t' ≡ true
  pub long : length t' ≡ length t

-- a known node moved on, a new one took its place, where there was room; without room the part is as it was. Only `rows` asks that the nodes rise
pub record Registered (n : NodeDescriptor) (t t' : List ℕ) : Type 0 where
  pub rows : sound_node n ≡ true → Rising node_key (nodes_in t) → (has node_key n.node_id.0 (nodes_in t) ≡ false → length (nodes_in t) < node_room)
      → nodes_in t' ≡ registered_nodes n (nodes_in t)
  pub known : (i : ℕ) → find_index (under node_key n.node_id.0) (nodes_in t) ≡ Some i → nodes_in t' ≡ set (nodes_in t) i (with_lifecycle (get_or (nodes_in t) i blank_node) n.lifecycle)
  pub new : sound_node n ≡ true → has node_key n.node_id.0 (nodes_in t) ≡ false → length (nodes_in t) < node_room → nodes_in t' ≡ insert_by (before node_key) n (nodes_in t)
  pub full : has node_key n.node_id.0 (nodes_in t) ≡ false → node_room ≤ length (nodes_in t) → t' ≡ t
  pub tidies : tidy node_width node_room t ≡ true → tidy node_width node_room t' ≡ true
  pub long : length t' ≡ length t
