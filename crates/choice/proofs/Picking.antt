-- The choice as a loop that takes one node more each time. Assumes nothing.
use Rattle.std.specs.Prelude.{◌≡◌, Bool, false, leb, ℕ, suc, ◌+◌, ◌-◌, ◌≤◌, ◌<◌, List, [], ◌∷◌, ◌++◌, Some, None, length, map}
use Rattle.std.proofs.Common.{rules, refl, sym, ◌∙◌, arith}
use denote.Ref.{Bor}
use lib.ListN.{length-append}
use Rattle.std.proofs.lemmas.List.{map-append}
use Rattle.metadata.specs.Labels.{best_of, choose_from, choose}
use Rattle.metadata.specs.Rooms.{initial_replication_factor}
use Rattle.rows.specs.Rows.{node_row}
use Rattle.metadata.specs.declared.NodeDescriptor.{NodeDescriptor}

-- ---- the definition: one node more, none left, or no place left
module _ (s l : List NodeDescriptor) where
  goes_on : (m : ℕ) (n : NodeDescriptor) → best_of s None l ≡ Some n → choose_from (suc m) s l ≡ choose_from m (s ++ n ∷ []) l
  unfolding choose_from
  goes_on m n e = simp e

  stops : (m : ℕ) → best_of s None l ≡ None → choose_from (suc m) s l ≡ s
  unfolding choose_from
  stops m e = simp e

  ends : choose_from 0 s l ≡ s
  unfolding choose_from
  ends = refl

-- f are chosen of the nodes l, each a row behind a reference, and with what is to come they are the whole choice
pub record Picking (l : List NodeDescriptor) (f : List (Bor (List ℕ))) : Type 0 where
  pub within : length f ≤ initial_replication_factor
  pub rest : choose_from (initial_replication_factor - length f) (map (λ n. node_row n.now) f) l ≡ choose l

module _ {l : List NodeDescriptor} where
  pub pick_start : Picking l []
  pick_start = record { within = omega arith; rest = refl }

  module _ {f : List (Bor (List ℕ))} (p : Picking l f) where
    pub pick_end : initial_replication_factor ≤ length f → map (λ n. node_row n.now) f ≡ choose l
    pick_end h = let z : initial_replication_factor - length f ≡ 0 = omega arith in sym (ends (map (λ n. node_row n.now) f) l) ∙ rw z at p.rest

    module _ (h : length f < initial_replication_factor) where
      abbrev left : ℕ
      left = initial_replication_factor - (length f + 1)

      one_more : initial_replication_factor - length f ≡ suc left
      one_more = omega arith

      pub pick_more : (n : Bor (List ℕ)) → Some (node_row n.now) ≡ best_of (map (λ m. node_row m.now) f) None l → Picking l (f ++ n ∷ [])
      pick_more n e =
          let m : length (f ++ n ∷ []) ≡ length f + 1 = simp length-append in
          record {
            within = omega arith;
            rest = rw (m, map-append) (sym (goes_on (map (λ m. node_row m.now) f) l left (node_row n.now) (sym e)) ∙ rw one_more at p.rest);
          }

      pub pick_stop : None ≡ best_of (map (λ m. node_row m.now) f) None l → map (λ n. node_row n.now) f ≡ choose l
      pick_stop e = sym (stops (map (λ m. node_row m.now) f) l left (sym e)) ∙ rw one_more at p.rest

pub room_left : {A : Type 0} (f : List A) {b : Bool} → b ≡ leb initial_replication_factor (length f) → b ≡ false → length f < initial_replication_factor
room_left f h e = search rules

-- a list with one more is nearer to the room
pub nearer : {A : Type 0} (f : List A) (x : A) {g : List A} → g ≡ f ++ x ∷ [] → length f < initial_replication_factor → initial_replication_factor - length g < initial_replication_factor - length f
nearer f x e h = rw (e, length-append) (omega arith)

-- for `using` on `choose`: its loop, which starts, and ends with the room or with no node left
pub ruleset picking = (pick_start, pick_end, pick_stop)
