-- A part of a list of bytes after another part, or the same, was written anew. Assumes nothing.
use borrow.Rule.Slice.PartMut.{put_mid}
use Rattle.std.specs.Prelude.{◌≡◌, ℕ, ◌+◌, ◌-◌, ◌≤◌, List, ◌++◌, length, take, drop}
use Rattle.std.proofs.Common.{refl, sym, ap, ◌∙◌, arith, append_assoc}
use Rattle.std.proofs.lemmas.List.{take_at, drop_at, drop-drop, length-append, length-take-le, length-drop, take-append-le, drop-append-le, take-take, drop-take}
use Rattle.std.proofs.Math.Seq.{drop-append-add}
use Rattle.laws.specs.Bytes.{field_at}

-- the n bytes at a, and n at another place
module _ (a n : ℕ) (c p : List ℕ) (l : length p ≡ n) (h : a + n ≤ length c) where
  front : length (take a c) ≡ a
  front = length-take-le a c (omega arith)

  abbrev written : List ℕ
  written = put_mid a n c p

  rest_is : drop n (drop a c) ≡ drop (a + n) c
  rest_is = drop-drop n a c

  pub part_same : field_at n written a ≡ p
  part_same = ap (take n) (drop_at (take a c) (p ++ drop n (drop a c)) a front) ∙ take_at p (drop n (drop a c)) n l

  pub part_length : length written ≡ length c
  part_length = length-append (take a c) (p ++ drop n (drop a c)) ∙ omega (arith, front, length-append p (drop n (drop a c)), length-drop n (drop a c), length-drop a c, l, h)

  pub part_behind : (at m : ℕ) → a + n ≤ at → field_at m written at ≡ field_at m c at
  part_behind at m k =
      let z : List ℕ = drop n (drop a c) in
      let f : length (take a c ++ p) ≡ a + n = length-append (take a c) p ∙ omega (arith, front, l) in
      let q : at ≡ length (take a c ++ p) + (at - (a + n)) = omega (arith, f, k) in
      let s : a + n + (at - (a + n)) ≡ at = omega (arith, k) in
      ap (take m)
      (ap (λ (i : ℕ). drop i written) q ∙ ap (drop (length (take a c ++ p) + (at - (a + n)))) (sym (append_assoc (take a c) p z))
      ∙ drop-append-add (take a c ++ p) z (at - (a + n)) ∙ ap (drop (at - (a + n))) rest_is ∙ drop-drop (at - (a + n)) (a + n) c ∙ ap (λ (i : ℕ). drop i c) s)

  pub part_ahead : (at m : ℕ) → at + m ≤ a → field_at m written at ≡ field_at m c at
  part_ahead at m k =
      let z : List ℕ = p ++ drop n (drop a c) in
      let d : drop at (take a c ++ z) ≡ drop at (take a c) ++ z = drop-append-le at (take a c) z (omega (arith, front, k)) in
      let e : length (drop at (take a c)) ≡ a - at = length-drop at (take a c) ∙ omega (arith, front) in
      let s : at + (a - at) ≡ a = omega (arith, k) in
      ap (take m) d ∙ take-append-le m (drop at (take a c)) z (omega (arith, e, k))
      ∙ ap (λ (i : ℕ). take m (drop at (take i c))) (sym s) ∙ ap (take m) (drop-take at (a - at) c) ∙ take-take m (a - at) (drop at c) (omega (arith, k))

-- ---- the parts of a list of a known length

-- the bytes before a place
pub head_length : (a : ℕ) (l : List ℕ) → a ≤ length l → length (take a l) ≡ a
head_length a l h = length-take-le a l h

-- those from a place on
pub tail_is : (a n m : ℕ) (l : List ℕ) → length l ≡ m → m ≡ a + n → take (length l - a) (drop a l) ≡ field_at n l a
tail_is a n m l e h = let q : length l - a ≡ n = omega (arith, e, h) in rw q refl
