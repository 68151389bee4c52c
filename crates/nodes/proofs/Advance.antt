-- The table of moves by lifecycles: a move that is allowed leads from one to another. Assumes nothing.
use Rattle.std.specs.Prelude.{◌≡◌, ℕ, zero, suc, ◌≤◌, Bool, false, [], Option, Some, None, get_or}
use Rattle.std.proofs.Common.{refl, arith}
use lib.ListN.{get_or-eq_default}
use Rattle.metadata.specs.Nodes.{moves, lifecycle_can_advance}
use Rattle.metadata.specs.Lifecycles.{lifecycle_of, number}
use Rattle.metadata.specs.declared.lifecycle.NodeLifecycle.{NodeLifecycle}

-- the lifecycle with a number has that number
number_of : (n : ℕ) (a : NodeLifecycle) → lifecycle_of n ≡ Some a → number a ≡ n
number_of zero a e = cc
number_of (suc zero) a e = cc
number_of (suc (suc zero)) a e = cc
number_of (suc (suc (suc zero))) a e = cc
number_of (suc (suc (suc (suc zero)))) a e = cc
number_of (suc (suc (suc (suc (suc n))))) a e = cc

-- a number of no lifecycle lies above all of them
no_lifecycle : (n : ℕ) → lifecycle_of n ≡ None → 5 ≤ n
no_lifecycle zero e = cc
no_lifecycle (suc zero) e = cc
no_lifecycle (suc (suc zero)) e = cc
no_lifecycle (suc (suc (suc zero))) e = cc
no_lifecycle (suc (suc (suc (suc zero)))) e = cc
no_lifecycle (suc (suc (suc (suc (suc n))))) e = omega arith

-- no row of the table is longer than five
past_row : (from to : ℕ) → 5 ≤ to → get_or (get_or moves from []) to false ≡ false
past_row zero to h = get_or-eq_default (get_or moves 0 []) false {n = to} h
past_row (suc zero) to h = get_or-eq_default (get_or moves 1 []) false {n = to} h
past_row (suc (suc zero)) to h = get_or-eq_default (get_or moves 2 []) false {n = to} h
past_row (suc (suc (suc zero))) to h = get_or-eq_default (get_or moves 3 []) false {n = to} h
past_row (suc (suc (suc (suc zero)))) to h = get_or-eq_default (get_or moves 4 []) false {n = to} h
past_row (suc (suc (suc (suc (suc n))))) to h = refl

module _ (from to : ℕ) where
  -- the table at the numbers of two lifecycles; and no move from or to a number of none
  advances : (a b : NodeLifecycle) → lifecycle_of from ≡ Some a → lifecycle_of to ≡ Some b → lifecycle_can_advance from to ≡ lifecycle_can_advance (number a) (number b)
  advances a b e f = rw (number_of from a e, number_of to b f)

  from_nowhere : lifecycle_of from ≡ None → lifecycle_can_advance from to ≡ false
  unfolding lifecycle_can_advance
  from_nowhere e = rw (get_or-eq_default moves [] {n = from} (no_lifecycle from e))

  to_nowhere : lifecycle_of to ≡ None → lifecycle_can_advance from to ≡ false
  unfolding lifecycle_can_advance
  to_nowhere e = past_row from to (no_lifecycle to e)

-- from one lifecycle_of to another, if both are one
abbrev pub between : Option NodeLifecycle → Option NodeLifecycle → Bool
between (Some a) (Some b) = lifecycle_can_advance (number a) (number b)
between (Some a) None = false
between None b = false

module _ (from to : ℕ) where
  by_lifecycles_go : (p q : Option NodeLifecycle) → lifecycle_of from ≡ p → lifecycle_of to ≡ q → lifecycle_can_advance from to ≡ between p q
  by_lifecycles_go (Some a) (Some b) e f = advances from to a b e f
  by_lifecycles_go (Some a) None e f = to_nowhere from to f
  by_lifecycles_go None q e f = from_nowhere from to e

  pub by_lifecycles : lifecycle_can_advance from to ≡ between (lifecycle_of from) (lifecycle_of to)
  by_lifecycles = by_lifecycles_go (lifecycle_of from) (lifecycle_of to) refl refl
