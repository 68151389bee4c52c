-- The bytes from a place on are at the front, and more is read behind them. Assumes nothing.
use Rattle.std.proofs.Common.{◌≡◌, ℕ, zero, suc, ◌+◌, ◌-◌, ◌≤◌, ◌<◌, List, [], ◌∷◌, ◌++◌, length, take, drop, refl, sym, ap, ap₂, ◌∙◌, append-nil, true≢false, arith, take_all, length-take-le, length-drop}
use lib.Seq.{take-append-le, take-append-add}
use borrow.Rule.Slice.PartMut.{put_mid, take_put}
use Rattle.std.specs.Prelude.{Option, None, Some, Result, Ok, Err, IfOk, IsErr, OnErr}
use Rattle.std.specs.Io.KnownBytes.{Keeps, Consumes, IsAtEnd}
use Rattle.std.specs.List.{copy_within}
use Rattle.std.proofs.lemmas.List.Edits.{take-paste}
use Rattle.input.specs.Buffers.{buffer_size}
use Rattle.input.specs.Filled.{Filled}

-- a part of the front of a list is a part of the list
pub drop_take : (k n : ℕ) (l : List ℕ) → drop k (take n l) ≡ take (n - k) (drop k l)
drop_take zero n l = let z : n ≡ n - 0 = omega arith in ap (λ (m : ℕ). take m l) z
drop_take (suc k) zero l = let z : 0 ≡ 0 - suc k = omega arith in ap (λ (m : ℕ). take m (drop (suc k) l)) z
drop_take (suc k) (suc n) [] = sym (take_all (suc n - suc k) [] (omega arith))
drop_take (suc k) (suc n) (x ∷ l) = let z : n - k ≡ suc n - suc k = omega arith in drop_take k n l ∙ ap (λ (m : ℕ). take m (drop k l)) z

kept_none : (unread after : Option (List ℕ)) → Keeps unread after → Consumes unread after []
kept_none None a k = tt
kept_none (Some x) None k = absurd k
kept_none (Some x) (Some y) k = sym k

-- a failure says nothing of what an answer would be
if_ok_failed : {E : Type 0} (P : ℕ → Type 0) (r : Result ℕ E) → IsErr r → IfOk r P
if_ok_failed P (Ok n) e = absurd (true≢false (sym e))
if_ok_failed P (Err x) e = tt

-- l is the buffer before, `front` the buffer when its bytes have been moved, and ys what a read left of the part behind them
module _ (at have k : ℕ) (l front ys : List ℕ) (g : at ≤ have) (h : have ≤ buffer_size) (long : length l ≡ buffer_size) (e : length front ≡ buffer_size)
    (f : front ≡ copy_within l at have 0) (unread after : Option (List ℕ)) where
  q : take (have - at) front ≡ take (have - at) (drop at l)
  q =
      let z : 0 + (have - at) ≡ have - at = omega arith in
      ap (take (have - at)) f ∙ ap (λ (i : ℕ). take i (copy_within l at have 0)) (sym z) ∙ take-paste l 0 (drop at l) (have - at) (omega arith) (omega (arith, length-drop at l))

  left_long : length (drop at (take have l)) ≡ have - at
  left_long = length-drop at (take have l) ∙ omega (arith, length-take-le have l (omega (arith, long)))

  pub filled : {E : Type 0} (n : ℕ) → n ≤ length ys → n ≡ length (take n ys) → length ys ≡ buffer_size - (have - at) → Consumes unread after (take n ys) → (n ≡ 0 → 0 < length ys → IsAtEnd after) →
      Filled {E = E} (drop at (take have l)) (take ((have - at) + n) (put_mid (have - at) k front ys)) unread after (Ok n)
  filled n j m w c d =
      let p : length (take (have - at) front) ≡ have - at = length-take-le (have - at) front (omega (arith, e)) in
      record {
        more = take n ys;
        read = c;
        bytes =
            ap (λ (i : ℕ). take (i + n) (put_mid (have - at) k front ys)) (sym p) ∙ take-append-add (take (have - at) front) (ys ++ drop k (drop (have - at) front)) n
            ∙ ap₂ (λ (x y : List ℕ). x ++ y) (q ∙ sym (drop_take at have l)) (take-append-le n ys (drop k (drop (have - at) front)) j);
        came = m;
        ended = λ z j. d z (omega (arith, left_long));
        failed = tt;
      }

  pub not_filled : {E : Type 0} (r : Result ℕ E) → IsErr r → Keeps unread after → Filled (drop at (take have l)) (take (have - at) (put_mid (have - at) k front ys)) unread after r
  not_filled r x s =
      record {
        more = [];
        read = kept_none unread after s;
        bytes = take_put (have - at) k front ys (omega (arith, e)) ∙ q ∙ sym (drop_take at have l) ∙ sym (append-nil (drop at (take have l)));
        came = if_ok_failed _ r x;
        ended = if_ok_failed _ r x;
        failed = on_err r;
      }
    where
      on_err : {E : Type 0} (x : Result ℕ E) → OnErr x (◌≡◌ {A = List ℕ} [] [])
      on_err (Ok n) = tt
      on_err (Err y) = refl

pub ruleset filling = (filled, not_filled)
