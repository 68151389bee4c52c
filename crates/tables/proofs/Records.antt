-- What rows say after an insertion or a replacement: f reads a row's bytes, the rows rise by the key of what they say. Assumes nothing.
use Rattle.std.specs.Prelude.{◌≡◌, ℕ, false, List, ◌∷◌, ◌++◌, length, map, take, drop, set, Some}
use Rattle.std.specs.Option.{unwrap_or}
use Rattle.std.proofs.Common.{refl, sym, ap, ap₂, ◌∙◌, arith, take_all}
use Rattle.std.proofs.lemmas.List.{map-append, map-set, length-map, take-map, drop-map}
use Rattle.laws.specs.Keyed.{Keyed, before, has, put, Rising}
use Rattle.laws.specs.Rows.{find_index, insert_by}
use Rattle.laws.proofs.Insert.{insert_at, at_place}
use Rattle.laws.proofs.KeyedLaws.{put_insert, put-set}
use Rattle.laws.proofs.Lookups.{spot}
use Rattle.tables.specs.Rows.{under, behind}

module _ {A B : Type 0} (f : B → A) where
  insert_map : (at : ℕ) (x : B) (l : List B) → map f (insert_at at x l) ≡ insert_at at (f x) (map f l)
  insert_map at x l = map-append f (take at l) (x ∷ drop at l) ∙ ap₂ (λ (p q : List A). p ++ f x ∷ q) (sym (take-map f at l)) (sym (drop-map f at l))

  module _ (T : Keyed A) (x : A) (row : B) (l : List B) (e : f row ≡ x) where
    -- put at its place, new or not
    pub put_sorted : (at : ℕ) → at ≡ unwrap_or (find_index (behind T (T.key x)) (map f l)) (length l) → map f (insert_at at row l) ≡ insert_by (before T) x (map f l)
    put_sorted at p =
        let n : length (map f l) ≡ length l = length-map l f in
        let m : List A = map f l in
        let t : take (length m) m ≡ m = take_all (length m) m (omega arith) in
        let q : at ≡ unwrap_or (find_index (before T x) m) (length m) = p ∙ ap (unwrap_or (find_index (before T x) m)) (sym n) in
        insert_map at row l ∙ ap (λ (y : A). insert_at at y m) e
        ∙ sym (ap (insert_by (before T) x) (sym t) ∙ at_place (before T) x (length m) m (omega arith) ∙ rw (t, ← q) refl)

    -- put at its place, new
    pub put_in_place : (at : ℕ) → at ≡ unwrap_or (find_index (behind T (T.key x)) (map f l)) (length l) → has T (T.key x) (map f l) ≡ false → map f (insert_at at row l) ≡ put T x (map f l)
    put_in_place at p new = put_sorted at p ∙ sym (put_insert T x (map f l) new)

    -- put in the place of the row with its key
    pub put_in_stead : (at : ℕ) → Rising T (map f l) → find_index (under T (T.key x)) (map f l) ≡ Some at → map f (set l at row) ≡ put T x (map f l)
    put_in_stead at r p =
        let m : List A = map f l in
        let t : take (length m) m ≡ m = take_all (length m) m (omega arith) in
        let g = spot T (T.key x) x x m (length m) at (ap (find_index (under T (T.key x))) t ∙ p) in
        map-set f l at row ∙ ap (set m at) e ∙ sym (put-set T x m at x r g.within g.own)
