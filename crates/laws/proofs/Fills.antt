-- A list that is one value throughout, compared place by place.
use lib.Pointwise.{pointwise}
use Prim.Native.Nat.compare.{suc-suc}
use Rattle.std.specs.Prelude.{◌≡◌, ℕ, zero, suc, Bool, true, false, ◌&&◌, List, [], ◌∷◌, eqb, length, replicate}
use Rattle.std.proofs.Common.{refl, arith}
use borrow.Author.Tests.{ne_eqb}
use Rattle.laws.specs.Lists.{every}

later : (s t u : Bool) → (s && (t && u)) ≡ (t && (s && u))
later true true u = refl
later true false u = refl
later false true u = refl
later false false u = refl

pub filled_is : {A : Type 0} (E : A → A → Bool) (z : A) (xs : List A) (n : ℕ) → pointwise E xs (replicate n z) ≡ (eqb (length xs) n && every (λ (x : A). E x z) xs)
filled_is E z [] zero = refl
filled_is E z [] (suc n) = rw (ne_eqb 0 (suc n) (λ e. omega arith))
filled_is E z (x ∷ xs) zero = rw (ne_eqb (suc (length xs)) 0 (λ e. omega arith))
filled_is E z (x ∷ xs) (suc n) = rw (suc-suc (length xs) n, filled_is E z xs n) (later (E x z) (eqb (length xs) n) (every (λ y. E y z) xs))
