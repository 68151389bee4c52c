-- The reason that a refusal carries is the lowest of those that apply. Assumes nothing.
use Prim.Native.Nat.{ℕ, ◌≤◌, ◌<◌}
use native.Mathlib.Omega.{arith}
use mathlib.Core.Path.{◌≡◌, refl}
use mathlib.Core.Bool.{Bool, true, false, cond, ◌&&◌, ◌||◌}
use mathlib.Core.List.{List, [], ◌∷◌, map}
use lib.Dec.{eqb, ltb}
use borrow.Author.Tests.{ltb-true, eq-eqb}
use Rattle.laws.specs.Lists.{All, any}
use Rattle.laws.specs.Rows.{rising_after}
use Rattle.laws.proofs.ListLaws.{never, and_both}
use Rattle.metadata.specs.Commands.{Command, naming, registering, lifecycle, tablet, placement, retirement, picking, Fault, lowest, faults}

abbrev reasons : List Fault → List ℕ
reasons = map (λ (f : Fault). f.reason)

-- the reasons of every command rise, and none is 0
pub reasons_rise : (c : Command) → rising_after ltb 0 (reasons (faults c)) ≡ true
reasons_rise (naming t) = refl
reasons_rise (registering n) = refl
reasons_rise (lifecycle k to) = refl
reasons_rise (tablet t) = refl
reasons_rise (placement p) = refl
reasons_rise (retirement x) = refl
reasons_rise picking = refl

-- every reason behind m is above it
above : (m : ℕ) (l : List Fault) → rising_after ltb m (reasons l) ≡ true → All (λ (f : Fault). m < f.reason) l
above m [] h = tt
above m (f ∷ l) h =
    let g = and_both (ltb m f.reason) (rising_after ltb f.reason (reasons l)) h in
    let k : m < f.reason = ltb-true m f.reason g.0 in
    (k, lift l (above f.reason l g.1) k)
  where
    lift : {n : ℕ} (l : List Fault) → All (λ (f : Fault). n < f.reason) l → m < n → All (λ (f : Fault). m < f.reason) l
    lift [] a k = tt
    lift (x ∷ l) a k = (omega (arith, a.0, k), lift l a.1 k)

abbrev AtMost : ℕ → Fault → Type 0
AtMost r f = f.applies ≡ true → r ≤ f.reason

least_go : (r m : ℕ) (t : Bool) (l : List Fault) → All (λ (f : Fault). r < f.reason) l → All (AtMost m) l → (t ≡ true → cond t r m ≤ r) × All (AtMost (cond t r m)) l
least_go r m true l a h = (λ e. omega arith, under l a)
  where
    under : (l : List Fault) → All (λ (f : Fault). r < f.reason) l → All (AtMost r) l
    under [] a = tt
    under (f ∷ l) a = (λ e. omega (arith, a.0), under l a.1)
least_go r m false l a h = (λ e. absurd (never false e refl), h)

least : (m : ℕ) (l : List Fault) → rising_after ltb m (reasons l) ≡ true → All (AtMost (lowest l)) l
unfolding lowest
least m [] h = tt
least m (f ∷ l) h =
    let g = and_both (ltb m f.reason) (rising_after ltb f.reason (reasons l)) h in
    least_go f.reason (lowest l) f.applies l (above f.reason l g.1) (least f.reason l g.1)

-- no reason that applies is below it
pub lowest_least : (c : Command) → All (AtMost (lowest (faults c))) (faults c)
lowest_least c = least 0 (faults c) (reasons_rise c)

-- the fault applies, and has the reason
abbrev pub given : ℕ → Fault → Bool
given r f = f.applies && eqb f.reason r

given_go : (r m : ℕ) (t : Bool) (l : List Fault) → ((m ≡ 0 → ⊥) → any (given m) l ≡ true) → (cond t r m ≡ 0 → ⊥) →
    ((t && eqb r (cond t r m)) || any (given (cond t r m)) l) ≡ true
given_go r m true l h n = rw (eq-eqb r r refl)
given_go r m false l h n = h n

given_one : (l : List Fault) → (lowest l ≡ 0 → ⊥) → any (given (lowest l)) l ≡ true
unfolding lowest
given_one [] n = absurd (n refl)
given_one (f ∷ l) n = given_go f.reason (lowest l) f.applies l (given_one l) n

-- and it applies, where it is not 0
pub lowest_given : (c : Command) → (lowest (faults c) ≡ 0 → ⊥) → any (given (lowest (faults c))) (faults c) ≡ true
lowest_given c n = given_one (faults c) n
