-- Demand 3 of a tape: what `history` says, of the commands that a tape holds. Assumes nothing.
use Prim.Native.Nat.{ℕ}
use mathlib.Core.Path.{◌≡◌, sym, ◌∙◌, ap, subst}
use mathlib.Core.Bool.{Bool, true, cond}
use mathlib.Core.List.{List}
use Rattle.metadata.specs.Answers.{is_applied}
use Rattle.metadata.specs.Model.{Outcome}
use Rattle.metadata.specs.Run.{run, answers}
use Rattle.metadata.specs.History.{initial_history}
use Rattle.metadata.specs.Claims.{Claims}
use Rattle.metadata.proofs.Theorem.{history}
use Rattle.tape.specs.declared.Ran.{Ran}
use Rattle.reading.proofs.Accepted.{accepted}
use Rattle.tape.specs.Tape.{final_store, RunOf, TapeClaims}
use Rattle.reading.specs.Reader.{read_from, tables_of, group_of, body_at, open_tape}

-- of every tape whose opening is accepted: the final rows are what the history says of its commands and their answers
pub tape_history : (l : List ℕ) → is_applied (open_tape l).answer ≡ true →
    Claims (initial_history (tables_of l) (group_of l)) (read_from l (body_at l)).commands (answers (open_tape l).rows (read_from l (body_at l)).commands) (final_store l)
unfolding final_store
tape_history l e =
    rw e
    (subst (λ (o : Outcome). Claims (initial_history (tables_of l) (group_of l)) (read_from l (body_at l)).commands (answers o.rows (read_from l (body_at l)).commands) (run o.rows (read_from l (body_at l)).commands))
    (accepted l e)
    (history (tables_of l) (group_of l) (read_from l (body_at l)).commands (subst (λ (o : Outcome). is_applied o.answer ≡ true) (sym (accepted l e)) e)))

-- of every run of a tape
pub run_history : (l : List ℕ) (room : ℕ) (r : Ran) (s : List ℕ) → RunOf l room r s → TapeClaims l r s
run_history l room r s k opened long =
    rw (k.rows ∙ ap (λ (t : Bool). cond t (open_tape l).rows (final_store l)) long) (tape_history l (sym k.opened ∙ opened))
