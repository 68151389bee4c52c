-- The order of byte strings, and ranges of them: `overlap_iff` (document 01, port item 3), `overlap_symmetric`, `later_shared`, `later_least`. Assumes nothing.
use Prim.Native.Nat.{ℕ, ◌<◌}
use native.Mathlib.Decide.{dec_lt}
use native.Mathlib.Omega.{arith}
use mathlib.Core.Path.{◌≡◌, refl, sym, ap, ap₂, subst, ◌∙◌}
use mathlib.Core.Bool.{Bool, true, false, not, cond, ◌||◌, true≢false, false≢true}
use mathlib.Core.List.{List, [], ◌∷◌}
use mathlib.Core.Logic.{◌↔◌}
use borrow.Author.Tests.{lt-ltb, le-ltb, eq-eqb, ne_eqb, not-true}
use Rattle.laws.proofs.ListLaws.{and_left, and_right, and_i, or_false}
use Rattle.text.specs.Ranges.{lex_leb, beforeb, overlapb, later_start, in_rangeb, admittedb, Bytes, Shared}

pub data Tri (x y : ℕ) : Type 0 where
  less : x < y → Tri x y
  same : x ≡ y → Tri x y
  more : y < x → Tri x y

pub tri : (x y : ℕ) → Tri x y
tri x y = go (dec_lt x y) (dec_lt y x)
  where
    go : Dec (x < y) → Dec (y < x) → Tri x y
    go (yes p) q = less p
    go (no p) (yes q) = more q
    go (no p) (no q) = same (omega arith)

-- one byte more at the front of both
module _ (x y : ℕ) (a b : List ℕ) where
  pub cons_less : x < y → lex_leb (x ∷ a) (y ∷ b) ≡ true
  unfolding lex_leb
  cons_less h = simp (lt-ltb x y h)

  pub cons_more : y < x → lex_leb (x ∷ a) (y ∷ b) ≡ false
  unfolding lex_leb
  cons_more h = simp (le-ltb x y (omega arith), ne_eqb x y (λ e. omega arith))

  pub cons_same : x ≡ y → lex_leb (x ∷ a) (y ∷ b) ≡ lex_leb a b
  unfolding lex_leb
  cons_same e = simp (le-ltb x y (omega arith), eq-eqb x y e)

pub lex_refl : (a : List ℕ) → lex_leb a a ≡ true
unfolding lex_leb
lex_refl [] = refl
lex_refl (x ∷ a) = cons_same x x a a refl ∙ lex_refl a

pub lex_total : (a b : List ℕ) → lex_leb a b ≡ false → lex_leb b a ≡ true
unfolding lex_leb
lex_total [] b h = absurd (true≢false h)
lex_total (x ∷ a) [] h = refl
lex_total (x ∷ a) (y ∷ b) h =
    elim (tri x y) [
      | less p ↦ absurd (true≢false (sym (cons_less x y a b p) ∙ h))
      | same p ↦ cons_same y x b a (sym p) ∙ lex_total a b (sym (cons_same x y a b p) ∙ h)
      | more p ↦ cons_less y x b a p
    ]

pub lex_trans : (a b c : List ℕ) → lex_leb a b ≡ true → lex_leb b c ≡ true → lex_leb a c ≡ true
unfolding lex_leb
lex_trans [] b c h k = refl
lex_trans (x ∷ a) [] c h k = absurd (false≢true h)
lex_trans (x ∷ a) (y ∷ b) [] h k = absurd (false≢true k)
lex_trans (x ∷ a) (y ∷ b) (z ∷ c) h k =
    elim (tri x y) [
      | less p ↦
          elim (tri y z) [
            | less q ↦ cons_less x z a c (omega arith)
            | same q ↦ cons_less x z a c (omega arith)
            | more q ↦ absurd (false≢true (sym (cons_more y z b c q) ∙ k))
          ]
      | same p ↦
          elim (tri y z) [
            | less q ↦ cons_less x z a c (omega arith)
            | same q ↦ cons_same x z a c (p ∙ q) ∙ lex_trans a b c (sym (cons_same x y a b p) ∙ h) (sym (cons_same y z b c q) ∙ k)
            | more q ↦ absurd (false≢true (sym (cons_more y z b c q) ∙ k))
          ]
      | more p ↦ absurd (false≢true (sym (cons_more x y a b p) ∙ h))
    ]

pub lex_antisym : (a b : List ℕ) → lex_leb a b ≡ true → lex_leb b a ≡ true → a ≡ b
unfolding lex_leb
lex_antisym [] [] h k = refl
lex_antisym [] (y ∷ b) h k = absurd (false≢true k)
lex_antisym (x ∷ a) [] h k = absurd (false≢true h)
lex_antisym (x ∷ a) (y ∷ b) h k =
    elim (tri x y) [
      | less p ↦ absurd (false≢true (sym (cons_more y x b a p) ∙ k))
      | same p ↦ ap₂ (λ (u : ℕ) (v : List ℕ). u ∷ v) p (lex_antisym a b (sym (cons_same x y a b p) ∙ h) (sym (cons_same y x b a (sym p)) ∙ k))
      | more p ↦ absurd (false≢true (sym (cons_more x y a b p) ∙ h))
    ]

nor_left : (p q : Bool) → not (p || q) ≡ true → p ≡ false
nor_left p q h = (or_false p q (not-true (p || q) h)).0

nor_right : (p q : Bool) → not (p || q) ≡ true → q ≡ false
nor_right p q h = (or_false p q (not-true (p || q) h)).1

-- an admitted range holds its start
own : (s e : List ℕ) → admittedb s e ≡ true → in_rangeb s e s ≡ true
unfolding lex_leb
own s [] h = and_i (lex_leb s s) true (lex_refl s) refl
own [] (y ∷ e) h = refl
own (x ∷ s) (y ∷ e) h = and_i (lex_leb (x ∷ s) (x ∷ s)) _ (lex_refl (x ∷ s)) h

-- a range that does not end before s, and starts at most at s, holds s
other : (z e s : List ℕ) → beforeb e s ≡ false → lex_leb z s ≡ true → in_rangeb z e s ≡ true
unfolding lex_leb
other z [] s h k = and_i (lex_leb z s) true k refl
other z (y ∷ e) [] h k = and_i (lex_leb z []) true k refl
other z (y ∷ e) (x ∷ s) h k = and_i (lex_leb z (x ∷ s)) (not (lex_leb (y ∷ e) (x ∷ s))) k (simp h)

-- where k is in a range that ends at e and is not before s, the range does not end before s
meet : (z e s k : List ℕ) → in_rangeb z e k ≡ true → lex_leb s k ≡ true → beforeb e s ≡ false
unfolding lex_leb
meet z [] s k h g = refl
meet z (y ∷ e) [] k h g = refl
meet z (y ∷ e) (x ∷ s) k h g = go (lex_leb (y ∷ e) (x ∷ s)) refl
  where
    go : (t : Bool) → lex_leb (y ∷ e) (x ∷ s) ≡ t → lex_leb (y ∷ e) (x ∷ s) ≡ false
    go true p = absurd (false≢true (subst (λ (t : Bool). not t ≡ true) (lex_trans (y ∷ e) (x ∷ s) k p g) (and_right (lex_leb z k) (not (lex_leb (y ∷ e) k)) h)))
    go false p = p

module _ (ls le rs re : List ℕ) where
  pub share : admittedb ls le ≡ true → admittedb rs re ≡ true → Bytes ls → Bytes rs → overlapb ls le rs re ≡ true → Shared ls le rs re
  share hl hr bl br h = go (lex_leb rs ls) refl
    where
      go : (t : Bool) → lex_leb rs ls ≡ t → Shared ls le rs re
      go true p = (ls, bl, own ls le hl, other rs re ls (nor_right (beforeb le rs) (beforeb re ls) h) p)
      go false p = (rs, br, other ls le rs (nor_left (beforeb le rs) (beforeb re ls) h) (lex_total rs ls p), own rs re hr)

  -- the later start is such a string
  pub later_shared : admittedb ls le ≡ true → admittedb rs re ≡ true → overlapb ls le rs re ≡ true
      → (in_rangeb ls le (later_start ls rs) ≡ true) × (in_rangeb rs re (later_start ls rs) ≡ true)
  later_shared hl hr h = go (lex_leb rs ls) refl
    where
      go : (t : Bool) → lex_leb rs ls ≡ t → (in_rangeb ls le (cond t ls rs) ≡ true) × (in_rangeb rs re (cond t ls rs) ≡ true)
      go true p = (own ls le hl, other rs re ls (nor_right (beforeb le rs) (beforeb re ls) h) p)
      go false p = (other ls le rs (nor_left (beforeb le rs) (beforeb re ls) h) (lex_total rs ls p), own rs re hr)

  -- and no key that lies in both is below it
  pub later_least : (k : List ℕ) → in_rangeb ls le k ≡ true → in_rangeb rs re k ≡ true → lex_leb (later_start ls rs) k ≡ true
  later_least k p q = go (lex_leb rs ls)
    where
      go : (t : Bool) → lex_leb (cond t ls rs) k ≡ true
      go true = and_left (lex_leb ls k) _ p
      go false = and_left (lex_leb rs k) _ q

  -- a key in both, whatever its bytes and length
  pub meets : (k : List ℕ) → in_rangeb ls le k ≡ true → in_rangeb rs re k ≡ true → overlapb ls le rs re ≡ true
  meets k p q = simp (meet ls le rs k p (and_left (lex_leb rs k) _ q), meet rs re ls k q (and_left (lex_leb ls k) _ p))

  pub shared : Shared ls le rs re → overlapb ls le rs re ≡ true
  shared w = meets w.0 w.2 w.3

  -- "overlap holds exactly when some byte string lies in both"
  pub overlap_iff : admittedb ls le ≡ true → admittedb rs re ≡ true → Bytes ls → Bytes rs → (overlapb ls le rs re ≡ true) ↔ Shared ls le rs re
  overlap_iff hl hr bl br = (share hl hr bl br, shared)

or_swap : (p q : Bool) → (p || q) ≡ (q || p)
or_swap true true = refl
or_swap true false = refl
or_swap false true = refl
or_swap false false = refl

pub overlap_symmetric : (ls le rs re : List ℕ) → overlapb ls le rs re ≡ overlapb rs re ls le
overlap_symmetric ls le rs re = ap not (or_swap (beforeb le rs) (beforeb re ls))

-- ranges that do not overlap have no key in common
pub no_key : (ls le rs re k : List ℕ) → overlapb ls le rs re ≡ false → in_rangeb ls le k ≡ true → in_rangeb rs re k ≡ true → ⊥
no_key ls le rs re k h p q = true≢false (sym (meets ls le rs re k p q) ∙ h)
