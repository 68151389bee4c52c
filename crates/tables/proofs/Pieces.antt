-- Pieces of one width: joined, cut, and one put among them. Over any width. Assumes nothing.
use Rattle.std.specs.Prelude.{◌≡◌, ℕ, zero, suc, ◌+◌, ◌-◌, ◌*◌, ◌/◌, ◌<◌, ◌≤◌, min, List, ◌∷◌, ◌++◌, length, take, drop}
use Rattle.std.specs.Simd.{first_chunks}
use Rattle.std.proofs.Common.{refl, sym, ap, ap₂, ◌∙◌, arith, take_all, append_assoc, add-one}
use Rattle.std.specs.List.{copy_within}
use borrow.Rule.Slice.PartMut.{put_mid}
use Rattle.std.proofs.Math.Seq.{take-take}
use Rattle.std.proofs.Math.Nat.{suc-mul, mul-le-mul_right, mul-div_cancel}
use Rattle.std.proofs.lemmas.List.{length-take-le, take-append-le, drop-take, drop_at, drop-drop, length-drop}
use Rattle.laws.specs.Bytes.{number_at}
use Rattle.tables.specs.Rows.{opened_for, rows_of}

module _ (w : ℕ) where
  -- the first k of n chunks
  pub first_of : (n k : ℕ) (l : List ℕ) → k ≤ n → take k (first_chunks w n l) ≡ first_chunks w k l
  first_of n zero l h = refl
  first_of zero (suc k) l h = absurd (omega arith)
  first_of (suc n) (suc k) l h = ap (λ (r : List (List ℕ)). take w l ∷ r) (first_of n k (drop w l) (omega arith))

  pub chunks_length : (n : ℕ) (l : List ℕ) → length (first_chunks w n l) ≡ n
  chunks_length zero l = refl
  chunks_length (suc n) l = ap suc (chunks_length n (drop w l))

-- ---- a row put at a place by a copy of those behind it

-- what stands from a to e is copied w places up, then w elements are written at a
module _ (a e w : ℕ) (xs row : List ℕ) (h : a ≤ e) (k : e + w ≤ length xs) (n : length row ≡ w) where
  copied : copy_within xs a e (a + w) ≡ take (a + w) xs ++ (take (e - a) (drop a xs) ++ drop (e + w) xs)
  copied = let q : a + w + (e - a) ≡ e + w = omega arith in rw q (append_assoc (take (a + w) xs) (take (e - a) (drop a xs)) (drop (e + w) xs))

  pub opened : put_mid a (a + w - a) (copy_within xs a e (a + w)) row ≡ take a xs ++ (row ++ (drop a (take e xs) ++ drop (e + w) xs))
  opened =
      let q : a + (a + w - a) ≡ a + w = omega arith in
      let front : List ℕ = take (a + w) xs in
      let f : length front ≡ a + w = length-take-le (a + w) xs (omega arith) in
      let rest : List ℕ = take (e - a) (drop a xs) ++ drop (e + w) xs in
      let t : take a (front ++ rest) ≡ take a xs = take-append-le a front rest (omega (arith, f)) ∙ take-take a (a + w) xs (omega arith) in
      let d : drop (a + w - a) (drop a (front ++ rest)) ≡ rest = drop-drop (a + w - a) a (front ++ rest) ∙ rw q (drop_at front rest (a + w) f) in
      let m : take (e - a) (drop a xs) ≡ drop a (take e xs) = (let g : a + (e - a) ≡ e = omega arith in sym (rw g at (drop-take a (e - a) xs))) in
      rw copied (ap₂ (λ (x y : List ℕ). x ++ (row ++ y)) t (d ∙ ap (λ (x : List ℕ). x ++ drop (e + w) xs) m))

-- the same by the number of a row
pub row_put : (n at : ℕ) (xs l row r : List ℕ) → at ≤ n → (n + 1) * length row ≤ length xs → l ≡ copy_within xs (at * length row) (n * length row) (at * length row + length row) → r ≡ row
    → put_mid (at * length row) (at * length row + length row - at * length row) l r ≡ opened_for n at row xs
row_put n at xs l row r h k p q =
    let f : (n + 1) * length row ≡ n * length row + length row = rw add-one (suc-mul n (length row)) in
    let g : at * length row ≤ n * length row = mul-le-mul_right (length row) h in
    rw (p, q, f) (opened (at * length row) (n * length row) (length row) xs row g (omega (arith, f)) refl)

-- the rows in use are among the chunks of all that stands behind the count
pub used_rows : (w room n m : ℕ) (t l : List ℕ) (rows : List (List ℕ)) → 0 < w → length t ≡ 8 + room * w → n ≡ number_at 8 t 0 → m ≡ min n room
    → l ≡ take (length t - 8) (drop 8 t) → rows ≡ first_chunks w (length l / w) l → take m rows ≡ rows_of w room t
unfolding rows_of
used_rows w room n m t l rows h e p q u r =
    let f : length (drop 8 t) ≡ room * w = length-drop 8 t ∙ omega (arith, e) in
    let v : l ≡ drop 8 t = u ∙ take_all (length t - 8) (drop 8 t) (omega (arith, e, f)) in
    let k : length (drop 8 t) / w ≡ room = rw f (mul-div_cancel room h) in
    rw (r, v, k, q, p) (first_of w room (min (number_at 8 t 0) room) (drop 8 t) (omega arith))

-- no more than the room
pub few_rows : (w room : ℕ) (t : List ℕ) → length (rows_of w room t) ≤ room
unfolding rows_of
few_rows w room t = omega (arith, chunks_length w (min (number_at 8 t 0) room) (drop 8 t))
