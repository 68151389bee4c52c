-- What there is to say to a question, on the rows of a store. Assumes nothing.
use Rattle.std.specs.Prelude.{ℕ, ◌≡◌, Bool, true, false, cond, List, [], ◌∷◌, ◌++◌, map, leb, ltb, length, get_or, Option, Some, None}
use Rattle.std.specs.Option.{option_map}
use Rattle.decode.specs.Decode.{tablet_at}
use Rattle.encode.specs.Encode.{node_bytes, tablet_bytes, placement_bytes, retirement_bytes}
use Rattle.encode.specs.Widths.{tablet_width}
use Rattle.laws.specs.Keyed.{Keyed, has, row}
use Rattle.lupinadze.specs.Given.{Said, said, Given, short, not_a_store}
use Rattle.metadata.specs.Labels.{select_initial_placement}
use Rattle.metadata.specs.Marks.{next_replica_id}
use Rattle.metadata.specs.Model.{StoreRows}
use Rattle.metadata.specs.Tables.{node_key, tablet_key, placement_key, retirement_key, blank_node, blank_tablet, blank_placement, blank_retirement}
use Rattle.metadata.specs.Tablets.{is_complete}
use Rattle.metadata.specs.declared.InitialPlacement.{InitialPlacement}
use Rattle.metadata.specs.declared.NodeId.{NodeId}
use Rattle.metadata.specs.declared.ReplicaId.{ReplicaId}
use Rattle.metadata.specs.declared.TabletDescriptor.{TabletDescriptor}
use Rattle.questions.specs.Lookups.{overlaps_row, later_row}

-- ---- rows

-- the bytes of the first row under a key, if there is one
abbrev pub row_bytes : {A : Type 0} (T : Keyed A) → A → (A → List ℕ) → T.Key → List A → Option (Said ℕ)
row_bytes T d bytes k l = cond (has T k l) (Some (said (bytes (row T d k l)))) None

-- each table's, a name and a line each

abbrev pub node_said : StoreRows → ℕ → Option (Said ℕ)
node_said s id = row_bytes node_key blank_node node_bytes id s.directory.nodes

abbrev pub tablet_said : StoreRows → ℕ → Option (Said ℕ)
tablet_said s id = row_bytes tablet_key blank_tablet tablet_bytes id s.catalog.tablets

abbrev pub desired_said : StoreRows → ℕ → Option (Said ℕ)
desired_said s id = row_bytes placement_key blank_placement placement_bytes id s.catalog.placements

abbrev pub retired_said : StoreRows → ℕ → ℕ → Option (Said ℕ)
retired_said s group replica = row_bytes retirement_key blank_retirement retirement_bytes (group, replica) s.catalog.retirements

-- ---- numbers

-- the next replica id, if there is one
abbrev pub next_said : StoreRows → Option (Said ℕ)
next_said s = option_map (λ (k : ReplicaId). said (k.0 ∷ [])) (next_replica_id s.catalog.marks)

-- 1 or 0: whether the table has as many tablets as its tablet count says
abbrev pub complete_count : StoreRows → ℕ → ℕ
complete_count s id = cond (is_complete (record { 0 = id }) s.catalog.tables s.catalog.tablets) 1 0

-- how many nodes are chosen; their ids, 0 for an unfilled place, and the policy's replication factor and minima
abbrev pub chosen_said : InitialPlacement → Said ℕ
chosen_said p =
    record {
      count = p.node_count;
      list =
          map (λ (n : NodeId). n.0) p.nodes
          ++ p.placement_policy.replication_factor
          ∷ p.placement_policy.min_distinct_regions
          ∷ p.placement_policy.min_distinct_zones
          ∷ p.placement_policy.min_distinct_racks
          ∷ [];
    }

-- of the first choice among the nodes as they are
abbrev pub choice_said : StoreRows → Said ℕ
choice_said s = chosen_said (select_initial_placement s.directory.nodes)

-- ---- ranges

-- from which key on the range of t overlaps that of the tablet under the id, if it does
abbrev pub overlap_said : TabletDescriptor → List TabletDescriptor → ℕ → Option (Said ℕ)
overlap_said t tablets id = cond (overlaps_row t tablets id) (Some (said (later_row t tablets id))) None

-- a tablet's row is read from the front of a list; of a shorter list nothing is asked
pub record OverlapGiven (is_store : Bool) (tablets : List TabletDescriptor) (id : ℕ) (other out : List ℕ) (r : ℕ) (out' : List ℕ) : Type 0 where
  pub given : leb tablet_width (length other) ≡ true → Given is_store (overlap_said (tablet_at other 0) tablets id) out r out'
  pub too_short : leb tablet_width (length other) ≡ false → (r ≡ cond is_store short not_a_store) × (out' ≡ out)

-- ---- the dump

-- the line under a number, counted from 0, if there is one
abbrev pub line_said : List (List ℕ) → ℕ → Option (Said ℕ)
line_said lines i = cond (ltb i (length lines)) (Some (said (get_or lines i []))) None
