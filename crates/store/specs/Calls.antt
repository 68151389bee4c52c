-- A store that lives between calls: the calls on one block, one behind the other. Assumes nothing.
use Rattle.std.specs.Prelude.{ℕ, List, [], ◌∷◌, ◌++◌, length, take, Result}
use Rattle.layout.specs.Layout.{Entered}
use Rattle.metadata.specs.declared.Answer.{Answer}
use Rattle.metadata.specs.declared.Command.{Command}
use Rattle.store.specs.Slices.{ApplyOf, call_answers, ran_by}
use Rattle.store.specs.declared.Fault.{Fault}

-- from the one block to the other, these commands were run and answered so: by `apply`, many in one call, or by `enter`, one at a time. Of the answers that `apply` writes, the first are those of the commands that it ran
pub data Calls : List ℕ → List Command → List Answer → List ℕ → Type 0 where
  none : {b : List ℕ} → Calls b [] [] b
  many : {b l out b₁ out₁ b₂ : List ℕ} {r : Result ℕ Fault} {cs : List Command} {rs : List Answer} → ApplyOf b l out r b₁ out₁ → Calls b₁ cs rs b₂
      → Calls b (ran_by b l out ++ cs) (take (length (ran_by b l out)) (call_answers b l) ++ rs) b₂
  one : {b b₁ b₂ : List ℕ} {c : Command} {a : Answer} {cs : List Command} {rs : List Answer} → Entered b c b₁ a → Calls b₁ cs rs b₂ → Calls b (c ∷ cs) (a ∷ rs) b₂
