-- A check on each row in turn, where g reads what the row says: the loop goes over the rows, the definition over what they say. Assumes nothing.
use Rattle.std.specs.Prelude.{◌≡◌, ℕ, ◌<◌, ◌≤◌, false, List, length, get_or, map, Result, IsErr, IsErrAnd}
use Rattle.std.proofs.Common.{sym, ◌∙◌}
use Rattle.metadata.specs.Answers.{Gives, is_applied, each}
use Rattle.metadata.specs.declared.Answer.{Answer}
use Rattle.metadata.specs.declared.Answer.TheVariants as V
use Rattle.metadata.proofs.Each.{EachFrom, each_end, each_map, each_refuses}

module _ {A B : Type 0} (f : A → Answer) (g : B → A) {xs : List B} {i : ℕ} where
  pub each_row_end : EachFrom (λ b. f (g b)) xs i → length xs ≤ i → each f (map g xs) ≡ V.Applied
  each_row_end s h = sym (each_map f g xs) ∙ each_end s h

  -- e is what the check of row i refused with, r what the function returns
  pub row_refuses : {X : Type 0} (d : B) (r : Result X Answer) (e : Answer) → EachFrom (λ b. f (g b)) xs i → i < length xs → (f (g (get_or xs i d)) ≡ e) × (is_applied e ≡ false)
      → IsErr r × IsErrAnd r (λ w. w ≡ e) → Gives r (each f (map g xs))
  row_refuses d r e s h p k = rw (← each_map f g xs) (each_refuses d r e s h p k)
