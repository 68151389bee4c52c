-- How many elements pass of a list that f reads from another, in std's word. Over any type. Assumes nothing.
use Rattle.std.specs.Prelude.{◌≡◌, ℕ, ◌+◌, Bool, true, false, cond, List, map}
use Rattle.std.specs.List.{count_by}
use Rattle.std.proofs.Common.{refl, sym, ◌∙◌, arith}
use Rattle.std.proofs.lemmas.List.Recursion.{is_count_by}
use Rattle.laws.specs.Lists.{tally}
use Rattle.laws.proofs.Through.{tally_map}

step : (t : Bool) (n : ℕ) → cond t 1 0 + n ≡ cond t (1 + n) n
step true n = refl
step false n = omega arith

module _ {A B : Type 0} (f : B → A) (p : A → Bool) where
  counted : (l : List B) → tally (λ b. p (f b)) l ≡ count_by (λ b. p (f b)) l
  unfolding tally
  counted l = is_count_by (tally (λ b. p (f b))) (λ b. p (f b)) refl (λ x xs. step (p (f x)) (tally (λ b. p (f b)) xs)) l

  pub tally_is : (l : List B) → tally p (map f l) ≡ count_by (λ b. p (f b)) l
  tally_is l = sym (tally_map f p l) ∙ counted l
