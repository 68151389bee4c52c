-- A text where it stands: its bytes are the first of its field. Assumes nothing.
use Rattle.std.specs.Prelude.{◌≡◌, ℕ, ◌+◌, ◌-◌, ◌≤◌, min, List, length, take, drop}
use Rattle.std.proofs.Common.{sym, ap, ◌∙◌, arith}
use Rattle.std.proofs.lemmas.List.{take-take, take_min, length-take-le, length-drop}

-- the shorter of two ends
pub shorter : (n m : ℕ) (l : List ℕ) → n ≤ length l → take (min m n) l ≡ take m (take n l)
shorter n m l h =
    let e : length (take n l) ≡ n = length-take-le n l h in
    sym (take-take (min m n) n l (omega arith)) ∙ ap (λ (k : ℕ). take (min m k) (take n l)) (sym e) ∙ take_min m (take n l)

pub text_there : (n m at : ℕ) (s : List ℕ) → at + 1 + n ≤ length s → take (at + 1 + min m n - (at + 1)) (drop (at + 1) s) ≡ take m (take n (drop (at + 1) s))
text_there n m at s h = let e : at + 1 + min m n - (at + 1) ≡ min m n = omega arith in rw e (shorter n m (drop (at + 1) s) (omega (arith, length-drop (at + 1) s)))
