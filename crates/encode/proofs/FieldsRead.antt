-- Fields that were written in a list are read as they were: numbers, texts and lists. Assumes nothing.
use Rattle.std.specs.Prelude.{◌≡◌, ◌≢◌, ℕ, zero, suc, ◌+◌, ◌*◌, ◌^◌, ◌<◌, ◌≤◌, Bool, true, false, cond, ◌||◌, leb, ltb, List, [], ◌∷◌, ◌++◌, eqb, length, get_or, take, drop}
use Rattle.std.specs.Int.{w32, w64, to_le_bytes}
use Rattle.std.specs.List.{flat_map}
use Rattle.std.proofs.Common.{refl, sym, ap, ◌∙◌, arith, eqb-true, eq-eqb, leb-true, ltb-true}
use Rattle.std.proofs.lemmas.List.{append_assoc, append-nil, length-append, length-take-le, take-take, take_at, take_all, drop_at, drop-take, drop_more}
use Rattle.std.proofs.lemmas.Bool.{le-leb}
use Rattle.std.proofs.lemmas.Nat.{from_le_bytes-to_le_bytes_4, from_le_bytes-to_le_bytes_8}
use borrow.Author.Tests.{ne_eqb}
use Rattle.laws.specs.Bytes.{little, field_at, number_at, byte_at}
use Rattle.laws.specs.Lists.{All}
use Rattle.text.specs.declared.Text.{Text}
use Rattle.text.specs.declared.Optional.{Optional}
use Rattle.numbers.proofs.Numbers.{four_bytes, eight_bytes}
use Rattle.text.specs.Texts.{fits, optional_fits}
use Rattle.laws.proofs.ListLaws.{and_left, and_right}
use Rattle.decode.specs.Decode.{text_at, optional_text_at, list_at}
use Rattle.encode.specs.Encode.{text_bytes, optional_bytes}

-- a text that may be absent, where its length and that of an absent text tell which
pub optional_told : (n m : ℕ) (p : Bool) (len : ℕ) (l : List ℕ) → (p ≡ true → len ≢ m) → (p ≡ false → len ≡ 0) →
    ◌≡◌ {A = Optional n}
    (cond (eqb (cond p len m) m) (record { present = false; text = record { len = 0; bytes = l } }) (record { present = true; text = record { len = cond p len m; bytes = l } }))
    (record { present = p; text = record { len = len; bytes = l } })
optional_told n m true len l f g = rw (ne_eqb len m (f refl))
optional_told n m false len l f g = rw (eq-eqb m m refl) (λ i. record { present = false; text = record { len = sym (g refl) i; bytes = l } })

-- an absent text is m and its field, a present one its length and its field
pub length_first : {n : ℕ} (m : ℕ) (o : Optional n) → cond o.present (text_bytes o.text) (m ∷ o.text.bytes) ≡ cond o.present o.text.len m ∷ o.text.bytes
unfolding text_bytes
length_first m o = go o.present
  where
    go : (p : Bool) → cond p (o.text.len ∷ o.text.bytes) (m ∷ o.text.bytes) ≡ cond p o.text.len m ∷ o.text.bytes
    go true = refl
    go false = refl

-- which an optional text that fits a width below 255 does
pub fits_told : {n : ℕ} (o : Optional n) → ltb n 255 ≡ true → optional_fits o ≡ true → (o.present ≡ true → o.text.len ≢ 255) × (o.present ≡ false → o.text.len ≡ 0)
unfolding optional_fits fits
fits_told {n} o h e =
    let a : (o.present || eqb o.text.len 0) ≡ true = and_left _ _ e in
    let b : leb o.text.len n ≡ true = and_left (leb o.text.len n) _ (and_right (o.present || eqb o.text.len 0) _ e) in
    (λ p q. absurd (omega (arith, leb-true o.text.len n b, ltb-true n 255 h)), λ p. eqb-true o.text.len 0 (rw p at a))

-- Of a list of w bytes. The bounds are tests, which compute at numerals
module _ {w : ℕ} (l : List ℕ) (long : length l ≡ w) where
  pub whole_front : (x : List ℕ) → l ≡ x → take w l ≡ x
  whole_front x e = take_all w l (omega arith) ∙ e

  within : (n : ℕ) → leb n w ≡ true → n ≤ length l
  within n b = omega (arith, leb-true n w b)

  -- where the front ends with a piece of n bytes, the piece stands at its place, and the front before it is what stood before the piece
  field_read : (n at : ℕ) (x p : List ℕ) → take (at + n) l ≡ x ++ p → leb (at + n) w ≡ true → length p ≡ n → (take at l ≡ x) × (field_at n l at ≡ p)
  field_read n at x p e b k =
      let start : length x ≡ at = omega (arith, length-take-le (at + n) l (within (at + n) b), ap length e, length-append x p) in (
        sym (take-take at (at + n) l (omega arith)) ∙ ap (take at) e ∙ take_at x p at start,
        sym (drop-take at n l) ∙ ap (drop at) e ∙ drop_at x p at start,
      )

  pub byte_read : (at : ℕ) (x : List ℕ) (k : ℕ) → take (at + 1) l ≡ x ++ k ∷ [] → leb (at + 1) w ≡ true → (take at l ≡ x) × (byte_at l at ≡ k)
  byte_read at x k e b =
      let h : at + 1 ≤ length l = within (at + 1) b in
      let r : (take at l ≡ x) × (field_at 1 l at ≡ k ∷ []) = field_read 1 at x (k ∷ []) e b refl in
      (r.0, ap (λ (y : List ℕ). get_or y 0 0) (sym (ap (take 1) (drop_more l at 0 (omega arith))) ∙ r.1))

  pub number4_read : (at : ℕ) (x : List ℕ) (k : ℕ) → take (at + 4) l ≡ x ++ to_le_bytes w32 k → leb (at + 4) w ≡ true → k < 2 ^ 32 → (take at l ≡ x) × (number_at 4 l at ≡ k)
  number4_read at x k e b f =
      let r : (take at l ≡ x) × (field_at 4 l at ≡ to_le_bytes w32 k) = field_read 4 at x (to_le_bytes w32 k) e b refl in
      (r.0, ap little r.1 ∙ sym (four_bytes (to_le_bytes w32 k) refl) ∙ from_le_bytes-to_le_bytes_4 k f)

  pub number8_read : (at : ℕ) (x : List ℕ) (k : ℕ) → take (at + 8) l ≡ x ++ to_le_bytes w64 k → leb (at + 8) w ≡ true → k < 2 ^ 64 → (take at l ≡ x) × (number_at 8 l at ≡ k)
  number8_read at x k e b f =
      let r : (take at l ≡ x) × (field_at 8 l at ≡ to_le_bytes w64 k) = field_read 8 at x (to_le_bytes w64 k) e b refl in
      (r.0, ap little r.1 ∙ sym (eight_bytes (to_le_bytes w64 k) refl) ∙ from_le_bytes-to_le_bytes_8 k f)

  pub cons_read : (n at : ℕ) (x : List ℕ) (k : ℕ) (p : List ℕ) → take (at + 1 + n) l ≡ x ++ k ∷ p → leb (at + 1 + n) w ≡ true → length p ≡ n →
      (take at l ≡ x) × (byte_at l at ≡ k) × (field_at n l (at + 1) ≡ p)
  cons_read n at x k p e b h =
      let r : (take (at + 1) l ≡ x ++ k ∷ []) × (field_at n l (at + 1) ≡ p) = field_read n (at + 1) (x ++ k ∷ []) p (e ∙ sym (append_assoc x (k ∷ []) p)) b h in
      let s : (take at l ≡ x) × (byte_at l at ≡ k) = byte_read at x k r.0 (le-leb (at + 1) w (omega (arith, leb-true (at + 1 + n) w b))) in
      (s.0, s.1, r.1)

  module _ {n : ℕ} where
    pub text_read : (at : ℕ) (x : List ℕ) (t : Text n) → take (at + 1 + n) l ≡ x ++ text_bytes t → leb (at + 1 + n) w ≡ true → length t.bytes ≡ n →
        (take at l ≡ x) × (text_at l at ≡ t)
    unfolding text_bytes
    text_read at x t e b h =
        let r : (take at l ≡ x) × (byte_at l at ≡ t.len) × (field_at n l (at + 1) ≡ t.bytes) = cons_read n at x t.len t.bytes e b h in
        (r.0, λ i. record { len = r.1 i; bytes = r.2 i })

    pub optional_read : (at : ℕ) (x : List ℕ) (o : Optional n) → take (at + 1 + n) l ≡ x ++ optional_bytes o → leb (at + 1 + n) w ≡ true → length o.text.bytes ≡ n → ltb n 255 ≡ true → optional_fits o ≡ true →
        (take at l ≡ x) × (optional_text_at l at ≡ o)
    unfolding optional_bytes
    optional_read at x o e b h k f =
        let r : (take at l ≡ x) × (byte_at l at ≡ cond o.present o.text.len 255) × (field_at n l (at + 1) ≡ o.text.bytes) =
        cons_read n at x (cond o.present o.text.len 255) o.text.bytes (e ∙ ap (λ (p : List ℕ). x ++ p) (length_first 255 o)) b h in
        let t : (o.present ≡ true → o.text.len ≢ 255) × (o.present ≡ false → o.text.len ≡ 0) = fits_told o k f in
        (r.0, rw (r.1, r.2) (optional_told n 255 o.present o.text.len o.text.bytes t.0 t.1))

  -- of each record of a list, what is known of it by its type
  module _ {A : Type 0} (f : List ℕ → ℕ → A) (bytes : A → List ℕ) (size : ℕ) (Typed : A → Type 0) where
    pub list_read : ((at : ℕ) (x : List ℕ) (a : A) → take (at + size) l ≡ x ++ bytes a → leb (at + size) w ≡ true → Typed a → (take at l ≡ x) × (f l at ≡ a)) →
        (n at : ℕ) (x : List ℕ) (es : List A) → take (at + size * n) l ≡ x ++ flat_map bytes es → leb (at + size * n) w ≡ true → length es ≡ n → All Typed es →
        (take at l ≡ x) × (list_at f size n l at ≡ es)
    list_read one zero at x [] e b k h = (ap (λ (m : ℕ). take m l) (omega arith) ∙ e ∙ append-nil x, refl)
    list_read one zero at x (a ∷ es) e b k h = absurd (omega arith)
    list_read one (suc n) at x [] e b k h = absurd (omega arith)
    list_read one (suc n) at x (a ∷ es) e b k h =
        let m : at + size + size * n ≤ w = omega (arith, leb-true (at + size * suc n) w b) in
        let r : (take (at + size) l ≡ x ++ bytes a) × (list_at f size n l (at + size) ≡ es) =
        list_read one n (at + size) (x ++ bytes a) es (ap (λ (m : ℕ). take m l) (omega arith) ∙ e ∙ sym (append_assoc x (bytes a) (flat_map bytes es)))
        (le-leb (at + size + size * n) w m) (omega arith) h.1 in
        let s : (take at l ≡ x) × (f l at ≡ a) = one at x a r.0 (le-leb (at + size) w (omega arith)) h.0 in
        (s.0, λ i. s.1 i ∷ r.1 i)
