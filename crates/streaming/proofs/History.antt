-- Demand 3 of whatever commands lead to: where an opening is accepted, the history says of them all that it says. Assumes nothing.
use Rattle.std.proofs.Common.{◌≡◌, ℕ, true, List, sym, ap, ◌∙◌, subst}
use Rattle.layout.specs.Layout.{store_of, sound}
use Rattle.metadata.proofs.Theorem.{history}
use Rattle.metadata.specs.Answers.{is_applied}
use Rattle.metadata.specs.Claims.{Claims}
use Rattle.metadata.specs.History.{initial_history}
use Rattle.metadata.specs.Model.{StoreRows, Outcome}
use Rattle.metadata.specs.Opening.{opening}
use Rattle.metadata.specs.Run.{answers}
use Rattle.metadata.specs.declared.TableRow.{TableRow}
use Rattle.reading.proofs.Accepted.{accepted}
use Rattle.reading.specs.Reader.{tables_of, group_of, open_tape}
use Rattle.streaming.specs.Stages.{Stage, Broken, midway, at_end}
use Rattle.streaming.specs.Whole.{Reached, ReachedClaims}
use Rattle.std.specs.Prelude.{Option}

pub reached_history : (tables : List TableRow) (group : ℕ) → is_applied (opening tables group).answer ≡ true → (s : StoreRows) → Reached (opening tables group).rows s → ReachedClaims tables group s
reached_history tables group e s k =
    record {
      reached = k;
      claims = subst (Claims (initial_history tables group) k.commands (answers (opening tables group).rows k.commands)) (sym k.ran) (history tables group k.commands e);
    }

-- of a tape whose opening is accepted
pub tape_reached : (l : List ℕ) → is_applied (open_tape l).answer ≡ true → (s : StoreRows) → Reached (open_tape l).rows s → ReachedClaims (tables_of l) (group_of l) s
tape_reached l a s k =
    reached_history (tables_of l) (group_of l) (ap (λ (o : Outcome). is_applied o.answer) (accepted l a) ∙ a) s
    (subst (λ (o : Outcome). Reached o.rows s) (sym (accepted l a)) k)

-- commands lead to what a run that failed leaves, and it is sound
pub broken_reached : (a : Stage) (s : List ℕ) (unread output : Option (List ℕ)) → Broken a s unread output → (sound s ≡ true) × Reached (store_of a.store) (store_of s)
broken_reached a s unread output (midway unrun line p) = (p.sounds, record { commands = p.commands; ran = p.ran })
broken_reached a s unread output (at_end how o) = (o.advanced.sounds, record { commands = o.advanced.commands; ran = o.advanced.ran })
