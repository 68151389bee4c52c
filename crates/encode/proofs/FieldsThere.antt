-- Fields that were read from bytes are written as those bytes: numbers, texts and lists. Assumes nothing.
use Rattle.std.specs.Prelude.{◌≡◌, ℕ, zero, suc, ◌+◌, ◌*◌, ◌≤◌, Bool, true, false, cond, List, [], ◌∷◌, ◌++◌, eqb, length, take, drop}
use Rattle.std.specs.Int.{w32, w64, to_le_bytes}
use Rattle.std.specs.List.{flat_map}
use Rattle.std.proofs.Common.{refl, sym, ap, ◌∙◌, arith, eqb-true}
use Rattle.std.proofs.lemmas.List.{append_assoc, append-nil, take-append-drop, take-take, take_more, drop-take}
use Rattle.std.proofs.lemmas.Nat.{le_bytes_4, le_bytes_8}
use Rattle.laws.specs.Bytes.{field_at, number_at, byte_at}
use Rattle.text.specs.Ranges.{Bytes}
use Rattle.text.specs.declared.Optional.{Optional}
use Rattle.numbers.proofs.Numbers.{four_bytes, eight_bytes, field_length, bytes_take, bytes_drop}
use Rattle.decode.specs.Decode.{text_at, optional_text_at, list_at}
use Rattle.encode.specs.Encode.{text_bytes, optional_bytes}

module _ (row : List ℕ) where
  pub field_there : (n at : ℕ) (x : List ℕ) → x ≡ take at row → x ++ field_at n row at ≡ take (at + n) row
  field_there n at x e =
      ap (λ (y : List ℕ). y ++ field_at n row at) (e ∙ sym (take-take at (at + n) row (omega arith)))
      ∙ ap (λ (y : List ℕ). take at (take (at + n) row) ++ y) (sym (drop-take at n row))
      ∙ take-append-drop at (take (at + n) row)

  pub byte_there : (at : ℕ) (x : List ℕ) → at + 1 ≤ length row → x ≡ take at row → x ++ byte_at row at ∷ [] ≡ take (at + 1) row
  byte_there at x h e = rw e (sym (take_more row at 0 (omega arith)))

module _ (row : List ℕ) (b : Bytes row) where
  field_below : (n at : ℕ) → Bytes (field_at n row at)
  field_below n at = bytes_take n (drop at row) (bytes_drop at row b)

  pub number4_there : (at : ℕ) (x : List ℕ) → at + 4 ≤ length row → x ≡ take at row → x ++ to_le_bytes w32 (number_at 4 row at) ≡ take (at + 4) row
  number4_there at x h e =
      let long : length (field_at 4 row at) ≡ 4 = field_length 4 row at h in
      ap (λ (p : List ℕ). x ++ p) (le_bytes_4 (field_at 4 row at) (number_at 4 row at) long (field_below 4 at) (sym (four_bytes _ long))) ∙ field_there row 4 at x e

  pub number8_there : (at : ℕ) (x : List ℕ) → at + 8 ≤ length row → x ≡ take at row → x ++ to_le_bytes w64 (number_at 8 row at) ≡ take (at + 8) row
  number8_there at x h e =
      let long : length (field_at 8 row at) ≡ 8 = field_length 8 row at h in
      ap (λ (p : List ℕ). x ++ p) (le_bytes_8 (field_at 8 row at) (number_at 8 row at) long (field_below 8 at) (sym (eight_bytes _ long))) ∙ field_there row 8 at x e

-- a byte, then a field of n bytes
pub cons_there : (n : ℕ) (row : List ℕ) (at : ℕ) (x : List ℕ) → at + 1 + n ≤ length row → x ≡ take at row → x ++ byte_at row at ∷ field_at n row (at + 1) ≡ take (at + 1 + n) row
cons_there n row at x h e =
    sym (append_assoc x (byte_at row at ∷ []) (field_at n row (at + 1)))
    ∙ field_there row n (at + 1) (x ++ byte_at row at ∷ []) (byte_there row at x (omega arith) e)

-- what says that a text is absent, in place of its length
pub absent : (n m byte : ℕ) (l : List ℕ) (t : Bool) → eqb byte m ≡ t →
    (let o : Optional n = cond t (record { present = false; text = record { len = 0; bytes = l } }) (record { present = true; text = record { len = byte; bytes = l } }) in
    cond o.present (text_bytes o.text) (m ∷ o.text.bytes)) ≡ byte ∷ l
unfolding text_bytes
absent n m byte l true e = ap (λ (k : ℕ). k ∷ l) (sym (eqb-true byte m e))
absent n m byte l false e = refl

pub text_there : (n : ℕ) (row : List ℕ) (at : ℕ) (x : List ℕ) → at + 1 + n ≤ length row → x ≡ take at row → x ++ text_bytes (text_at {n = n} row at) ≡ take (at + 1 + n) row
unfolding text_bytes
text_there n row at x h e = cons_there n row at x h e

pub optional_there : (n : ℕ) (row : List ℕ) (at : ℕ) (x : List ℕ) → at + 1 + n ≤ length row → x ≡ take at row →
    x ++ optional_bytes (optional_text_at {n = n} row at) ≡ take (at + 1 + n) row
unfolding optional_bytes text_bytes
optional_there n row at x h e =
    ap (λ (p : List ℕ). x ++ p) (absent n 255 (byte_at row at) (field_at n row (at + 1)) (eqb (byte_at row at) 255) refl) ∙ cons_there n row at x h e

-- records of one size, one behind the other
module _ {A : Type 0} (f : List ℕ → ℕ → A) (bytes : A → List ℕ) (size : ℕ) (row : List ℕ) where
  pub list_there : ((at : ℕ) (x : List ℕ) → at + size ≤ length row → x ≡ take at row → x ++ bytes (f row at) ≡ take (at + size) row) →
      (n at : ℕ) (x : List ℕ) → at + size * n ≤ length row → x ≡ take at row → x ++ flat_map bytes (list_at f size n row at) ≡ take (at + size * n) row
  list_there one zero at x h e = rw (append-nil x) (e ∙ ap (λ (k : ℕ). take k row) (omega arith))
  list_there one (suc n) at x h e =
      sym (append_assoc x (bytes (f row at)) (flat_map bytes (list_at f size n row (at + size))))
      ∙ list_there one n (at + size) (x ++ bytes (f row at)) (omega arith) (one at x (omega arith) e)
      ∙ ap (λ (k : ℕ). take k row) (omega arith)
