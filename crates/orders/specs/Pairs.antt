-- Pairs of numbers, the first number first. Assumes nothing.
use Rattle.std.specs.Prelude.{ℕ, Bool, true, false, cond, ltb, eqb}

abbrev pub pair_eq : ℕ × ℕ → ℕ × ℕ → Bool
pair_eq a b = cond (eqb a.0 b.0) (eqb a.1 b.1) false

abbrev pub pair_lt : ℕ × ℕ → ℕ × ℕ → Bool
pair_lt a b = cond (ltb a.0 b.0) true (cond (eqb a.0 b.0) (ltb a.1 b.1) false)
