-- Whether rows rise, as a method that asks of each row and the next answers it. Over any type of rows and any order. Assumes nothing.
use Rattle.std.specs.Prelude.{◌≡◌, ℕ, zero, suc, ◌<◌, Bool, true, false, ◌&&◌, List, [], ◌∷◌, length}
use Rattle.std.specs.List.{IsAllAdjacentAnswer}
use Rattle.std.proofs.Common.{refl, sym, get_or, arith, add-one}
use Rattle.laws.specs.Rows.{rising, rising_after}
use Rattle.laws.proofs.ListLaws.{and_i}

module _ {A : Type 0} (lt : A → A → Bool) where
  up : (x : A) (ys : List A) → ((k : ℕ) (d : A) → suc k < suc (length ys) → true ≡ lt (get_or (x ∷ ys) k d) (get_or (x ∷ ys) (suc k) d)) → rising_after lt x ys ≡ true
  up x [] h = refl
  up x (y ∷ ys) h = and_i (lt x y) (rising_after lt y ys) (sym (h 0 x (omega arith))) (up y ys (λ k d b. h (suc k) d (omega arith)))

  all_up : (l : List A) → ((k : ℕ) (d : A) → suc k < length l → true ≡ lt (get_or l k d) (get_or l (suc k) d)) → rising lt l ≡ true
  all_up [] h = refl
  all_up (x ∷ l) h = up x l h

  and_none : (t u : Bool) → u ≡ false → (t && u) ≡ false
  and_none true u e = e
  and_none false u e = refl

  down : (x : A) (ys : List A) (k : ℕ) → suc k < suc (length ys) → ((d : A) → false ≡ lt (get_or (x ∷ ys) k d) (get_or (x ∷ ys) (suc k) d)) → rising_after lt x ys ≡ false
  down x [] k b e = absurd (omega arith)
  down x (y ∷ ys) zero b e = rw (← e x)
  down x (y ∷ ys) (suc k) b e = and_none (lt x y) (rising_after lt y ys) (down y ys k (omega arith) e)

  some_down : (l : List A) (k : ℕ) → suc k < length l → ((d : A) → false ≡ lt (get_or l k d) (get_or l (suc k) d)) → rising lt l ≡ false
  some_down [] k b e = absurd (omega arith)
  some_down (x ∷ l) k b e = down x l k b e

  -- `is_sorted_by`
  pub rising_is : (l : List A) (r : Bool) → IsAllAdjacentAnswer (λ (x y : A) (b : Bool). b ≡ lt x y) l r → r ≡ rising lt l
  rising_is l true h = sym (all_up l (λ k d b. rw add-one at (h k d (omega arith))))
  rising_is l false h = sym (some_down l h.0 (omega (arith, h.1)) (λ d. rw add-one at (h.2 d)))
