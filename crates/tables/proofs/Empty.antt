-- A table of zeros alone: no rows, and tidy. Over any width and room. Assumes nothing.
use Rattle.std.specs.Prelude.{◌≡◌, ℕ, ◌+◌, ◌-◌, ◌*◌, ◌≤◌, min, true, [], take, drop, replicate}
use Rattle.std.proofs.Common.{refl, ap, ◌∙◌, arith, eq-eqb, le-leb}
use Rattle.std.proofs.lemmas.List.{take-replicate, drop-replicate, length-replicate}
use Rattle.laws.specs.Bytes.{is_zero, little, field_at, number_at}
use Rattle.laws.specs.Lists.{every}
use Rattle.laws.proofs.Every.{copies_pass}
use Rattle.laws.proofs.Tests.{all_of_lem}
use Rattle.tables.specs.Rows.{rows_of, tidy}

-- a part of zeros is zeros
pub zero_part : (n at m : ℕ) → at + n ≤ m → field_at n (replicate m 0) at ≡ replicate n 0
zero_part n at m h = ap (take n) (drop-replicate at m 0) ∙ take-replicate n (m - at) 0 (omega (arith, h))

little_zeros : little (replicate 8 0) ≡ 0
unfolding little
little_zeros = refl

-- zeros read as the number 0
pub zero_number : (at m : ℕ) → at + 8 ≤ m → number_at 8 (replicate m 0) at ≡ 0
zero_number at m h = ap little (zero_part 8 at m h) ∙ little_zeros

pub zero_rows : (w room m : ℕ) → 8 ≤ m → rows_of w room (replicate m 0) ≡ []
unfolding rows_of
zero_rows w room m h = let c : min (number_at 8 (replicate m 0) 0) room ≡ 0 = omega (arith, zero_number 0 m h) in rw c refl

pub zero_tidy : (w room : ℕ) → tidy w room (replicate (8 + room * w) 0) ≡ true
unfolding tidy
zero_tidy w room =
    let m : ℕ = 8 + room * w in
    let c : number_at 8 (replicate m 0) 0 ≡ 0 = zero_number 0 m (omega arith) in
    let z : every is_zero (drop (8 + number_at 8 (replicate m 0) 0 * w) (replicate m 0)) ≡ true =
    ap (every is_zero) (drop-replicate (8 + number_at 8 (replicate m 0) 0 * w) m 0) ∙ copies_pass is_zero 0 refl (m - (8 + number_at 8 (replicate m 0) 0 * w)) in
    all_of_lem _ (eq-eqb _ _ (length-replicate m 0), (le-leb _ _ (omega (arith, c)), (z, tt)))
