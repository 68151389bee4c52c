-- What an order of keys owes, for numbers and for pairs of them. Assumes nothing.
use Rattle.std.specs.Prelude.{ℕ, ◌≤◌, ◌<◌, ◌≡◌, refl, Bool, true, false, cond, ltb, eqb}
use Rattle.std.proofs.Common.{arith, sym, ltb-true, ltb-false, eqb-true, lt-ltb, le-ltb, eq-eqb}
use Rattle.std.proofs.lemmas.Bool.{eqb-false}
use Rattle.orders.specs.Pairs.{pair_eq, pair_lt}

-- ---- numbers

pub number_same : (a : ℕ) → eqb a a ≡ true
number_same a = eq-eqb a a refl

pub number_self : (a : ℕ) → ltb a a ≡ false
number_self a = le-ltb a a (omega arith)

pub number_trans : (a b c : ℕ) → ltb a b ≡ true → ltb b c ≡ true → ltb a c ≡ true
number_trans a b c e f = lt-ltb a c (omega (arith, ltb-true a b e, ltb-true b c f))

pub number_else : (a b : ℕ) → ltb a b ≡ false → eqb b a ≡ false → ltb b a ≡ true
number_else a b e f = lt-ltb b a (omega (arith, ltb-false a b e, eqb-false b a f))

-- ---- pairs

pub pair_eq_go : (a b : ℕ × ℕ) (t : Bool) → eqb a.0 b.0 ≡ t → cond t (eqb a.1 b.1) false ≡ true → a ≡ b
pair_eq_go a b true e h = λ i. (eqb-true a.0 b.0 e i, eqb-true a.1 b.1 h i)
pair_eq_go a b false e h = cc

-- what a pair's test says of the numbers
pair_lt_go : (a b : ℕ × ℕ) (t u : Bool) → ltb a.0 b.0 ≡ t → eqb a.0 b.0 ≡ u → cond t true (cond u (ltb a.1 b.1) false) ≡ true →
    (a.0 ≤ b.0) × (a.0 ≡ b.0 → a.1 < b.1)
pair_lt_go a b true u e f h = (omega (arith, ltb-true a.0 b.0 e), λ q. absurd (omega (arith, ltb-true a.0 b.0 e)))
pair_lt_go a b false true e f h = (omega (arith, eqb-true a.0 b.0 f), λ q. ltb-true a.1 b.1 h)
pair_lt_go a b false false e f h = cc_absurd h
  where
    cc_absurd : {P : Type 0} → false ≡ true → P
    cc_absurd q = absurd (let z : ◌≡◌ {A = ℕ} 0 1 = cc in omega arith)

pub pair_lt_is : (a b : ℕ × ℕ) → (a.0 ≤ b.0) × (a.0 ≡ b.0 → a.1 < b.1) → (t : Bool) → ltb a.0 b.0 ≡ t → cond t true (cond (eqb a.0 b.0) (ltb a.1 b.1) false) ≡ true
pair_lt_is a b h true e = refl
pair_lt_is a b h false e =
    let q : a.0 ≡ b.0 = omega (arith, ltb-false a.0 b.0 e, h.0) in
    rw (eq-eqb a.0 b.0 q, lt-ltb a.1 b.1 (h.1 q))

pair_lt_lem : (a b : ℕ × ℕ) → pair_lt a b ≡ true → (a.0 ≤ b.0) × (a.0 ≡ b.0 → a.1 < b.1)
pair_lt_lem a b h = pair_lt_go a b (ltb a.0 b.0) (eqb a.0 b.0) refl refl h

pub pair_trans : (a b c : ℕ × ℕ) → pair_lt a b ≡ true → pair_lt b c ≡ true → pair_lt a c ≡ true
pair_trans a b c e f =
    let g = pair_lt_lem a b e in
    let h = pair_lt_lem b c f in
    pair_lt_is a c (
      omega (arith, g.0, h.0),
      λ q. let x : a.0 ≡ b.0 = omega (arith, g.0, h.0) in let y : b.0 ≡ c.0 = omega (arith, g.0, h.0) in omega (arith, g.1 x, h.1 y),
    )
    (ltb a.0 c.0) refl

pub pair_else_go : (a b : ℕ × ℕ) (t u v : Bool) → ltb a.0 b.0 ≡ t → eqb a.0 b.0 ≡ u → ltb a.1 b.1 ≡ v → cond t true (cond u v false) ≡ false → pair_eq b a ≡ false →
    (b.0 ≤ a.0) × (b.0 ≡ a.0 → b.1 < a.1)
pair_else_go a b true u v e f g h k = absurd (let z : ◌≡◌ {A = ℕ} 0 1 = cc in omega arith)
pair_else_go a b false true true e f g h k = absurd (let z : ◌≡◌ {A = ℕ} 0 1 = cc in omega arith)
pair_else_go a b false true false e f g h k =
    let q : b.0 ≡ a.0 = sym (eqb-true a.0 b.0 f) in
    let n : eqb b.1 a.1 ≡ false = rw (eq-eqb b.0 a.0 q) at k in
    (omega arith, λ p. omega (arith, ltb-false a.1 b.1 g, eqb-false b.1 a.1 n))
pair_else_go a b false false v e f g h k = (omega (arith, ltb-false a.0 b.0 e), λ q. absurd (eqb-false a.0 b.0 f (sym q)))

pub pair_true : (a b : ℕ × ℕ) → pair_eq a b ≡ true → a ≡ b
pair_true a b e = pair_eq_go a b (eqb a.0 b.0) refl e

pub pair_same : (a : ℕ × ℕ) → pair_eq a a ≡ true
pair_same a = rw (eq-eqb a.0 a.0 refl, eq-eqb a.1 a.1 refl)

pub pair_self : (a : ℕ × ℕ) → pair_lt a a ≡ false
pair_self a = rw (le-ltb a.0 a.0 (omega arith), le-ltb a.1 a.1 (omega arith), eq-eqb a.0 a.0 refl)

pub pair_else : (a b : ℕ × ℕ) → pair_lt a b ≡ false → pair_eq b a ≡ false → pair_lt b a ≡ true
pair_else a b e f = pair_lt_is b a (pair_else_go a b (ltb a.0 b.0) (eqb a.0 b.0) (ltb a.1 b.1) refl refl refl e f) (ltb b.0 a.0) refl
