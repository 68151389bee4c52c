-- A check on each element in turn, as a loop: what is left of the list decides.
use Rattle.std.specs.Prelude.{◌≡◌, ℕ, ◌+◌, ◌<◌, ◌≤◌, false, List, [], ◌∷◌, map, length, get_or, drop, Result, Ok, Err, IsErr, IsErrAnd}
use Rattle.std.proofs.Common.{refl, ap, ◌∙◌, add-one}
use lib.Seq.{drop-cons}
use lib.ListN.{drop_of_length-le}
use Rattle.metadata.specs.Answers.{Gives, is_applied, and_then, ◌⊳◌, each}
use Rattle.metadata.specs.declared.Answer.{Answer}
use Rattle.metadata.specs.declared.Answer.TheVariants as A

-- the elements before place i passed
pub record EachFrom {X : Type 0} (f : X → Answer) (xs : List X) (i : ℕ) : Type 0 where
  pub left : each f xs ≡ each f (drop i xs)

module _ {X : Type 0} {f : X → Answer} {xs : List X} where
  pub each_start : EachFrom f xs 0
  each_start = record { left = refl }

  pub each_next : {i : ℕ} (d : X) → EachFrom f xs i → i < length xs → f (get_or xs i d) ≡ A.Applied → EachFrom f xs (i + 1)
  unfolding each and_then
  each_next {i} d h k e = record { left = h.left ∙ rw (drop-cons xs i d k, e, add-one) }

  pub each_stop : {i : ℕ} (d : X) {a : Answer} → EachFrom f xs i → i < length xs → f (get_or xs i d) ≡ a → is_applied a ≡ false → each f xs ≡ a
  unfolding each and_then
  each_stop {i} d h k e q = h.left ∙ rw (drop-cons xs i d k, e, q)

  pub each_end : {i : ℕ} → EachFrom f xs i → length xs ≤ i → each f xs ≡ A.Applied
  unfolding each
  each_end {i} h k = h.left ∙ rw (drop_of_length-le xs {i = i} k)

-- the check of place i refused with e, which a `?` hands on as r: what the function gives is what the whole check gives
pub each_refuses : {X A : Type 0} {f : X → Answer} {xs : List X} {i : ℕ} (d : X) (r : Result A Answer) (e : Answer) → EachFrom f xs i → i < length xs
    → (f (get_or xs i d) ≡ e) × (is_applied e ≡ false) → IsErr r × IsErrAnd r (λ w. w ≡ e) → Gives r (each f xs)
each_refuses d (Ok x) e s h g k = let z = k.0 in cc
each_refuses d (Err w) e s h g k = rw k.1 (each_stop d s h g.0 g.1, g.1)

-- a check of what g reads from each element
pub each_map : {X Y : Type 0} (f : Y → Answer) (g : X → Y) (l : List X) → each (λ x. f (g x)) l ≡ each f (map g l)
unfolding each
each_map f g [] = refl
each_map f g (x ∷ l) = ap (λ a. f (g x) ⊳ a) (each_map f g l)

-- for `using` on a loop that asks a check of each row in turn: `expected_in` and `still_expected` (nodes), `judge_leaders` and `judge_kept_replicas` (placements), `judge_range` (tablets)
pub ruleset each_rules = (each_start, each_next, each_stop, each_end)
