-- The padding of a text where it stands: what lies behind its bytes in the field. Assumes nothing.
use Rattle.std.specs.Prelude.{◌≡◌, ℕ, ◌+◌, ◌-◌, ◌≤◌, Bool, List, take, drop}
use Rattle.std.proofs.Common.{refl, sym, ap, ◌∙◌, arith, eq-eqb, le-leb}
use Rattle.std.proofs.lemmas.List.{drop-drop, drop-take}
use Rattle.laws.specs.Bytes.{is_zero, field_at, byte_at}
use Rattle.laws.specs.Lists.{every}
use Rattle.decode.specs.Decode.{optional_text_at}
use Rattle.text.specs.Texts.{fits, optional_fits}

pub padding_there : (n m at : ℕ) (s : List ℕ) → m ≤ n → take (at + 1 + n - (at + 1 + m)) (drop (at + 1 + m) s) ≡ drop m (field_at n s (at + 1))
padding_there n m at s h =
    let e : at + 1 + n - (at + 1 + m) ≡ n - m = omega (arith, h) in
    let f : m + (n - m) ≡ n = omega (arith, h) in
    let d : drop (at + 1 + m) s ≡ drop m (drop (at + 1) s) = sym (drop-drop m (at + 1) s) in
    rw (e, d) (sym (ap (λ (k : ℕ). drop m (take k (drop (at + 1) s))) (sym f) ∙ drop-take m (n - m) (drop (at + 1) s)))

-- of an absent text the whole field is padding
pub absent_fits : (n at : ℕ) (s : List ℕ) (r : Bool) → byte_at s at ≡ 255 → r ≡ every is_zero (take (at + 1 + n - (at + 1)) (drop (at + 1) s)) → r ≡ optional_fits (optional_text_at {n = n} s at)
unfolding fits optional_fits
absent_fits n at s r e f =
    let a = eq-eqb (byte_at s at) 255 e in
    let g : at + 1 + n - (at + 1) ≡ n = omega arith in
    let z = le-leb 0 n (omega arith) in
    rw (a, z) (f ∙ rw g refl)
