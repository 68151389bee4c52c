-- The run of a command tape (document 01): what it is answered, and the rows that are left. Assumes nothing.
use Rattle.std.specs.Prelude.{ℕ, ◌*◌, ◌≡◌, true, false, cond, List, [], ◌∷◌, ◌++◌, leb, ltb, length, drop}
use Rattle.layout.specs.Layout.{store_of, sound}
use Rattle.metadata.specs.Answers.{is_applied}
use Rattle.metadata.specs.Model.{StoreRows}
use Rattle.metadata.specs.Run.{run, answers}
use Rattle.metadata.specs.History.{initial_history}
use Rattle.metadata.specs.Claims.{Claims}
use Rattle.metadata.specs.declared.Answer.{Answer}
use Rattle.reading.specs.Reader.{read_from, tape_answers, tables_of, group_of, body_at, open_tape}
use Rattle.answer_numbers.specs.Numbers.{numbers}
use Rattle.tape.specs.declared.Ran.{Ran}

-- "A refused opening prints line 0 and stops": then the one answer is the opening's
unfoldable pub outcome : List ℕ → List Answer
outcome l =
    cond (is_applied (open_tape l).answer) (tape_answers (open_tape l).rows (read_from l (body_at l))) ((open_tape l).answer ∷ [])

unfoldable pub final_store : List ℕ → StoreRows
final_store l = cond (is_applied (open_tape l).answer) (run (open_tape l).rows (read_from l (body_at l)).commands) (open_tape l).rows

-- what a run of a whole tape gives, and leaves in the block, where the list has this room: with too little of it no command is run and no number is written
pub record RunOf (l : List ℕ) (room : ℕ) (r : Ran) (s : List ℕ) : Type 0 where
  pub opened : r.opened ≡ is_applied (open_tape l).answer
  pub short : r.short ≡ ltb room (4 * length (outcome l))
  pub lines : r.lines ≡ length (outcome l)
  pub rows : store_of s ≡ cond r.short (open_tape l).rows (final_store l)
  pub sounds : sound s ≡ true

unfoldable pub ran_out : List ℕ → List ℕ → List ℕ
ran_out l out = cond (leb (4 * length (outcome l)) (length out)) (numbers (outcome l) ++ drop (4 * length (outcome l)) out) out

-- demand 3 of a run: where the opening was accepted and the commands were run, all that `Claims` says of the tape's tables, group mark, commands and answers
abbrev pub TapeClaims : List ℕ → Ran → List ℕ → Type 0
TapeClaims l r s =
    r.opened ≡ true → r.short ≡ false →
    Claims (initial_history (tables_of l) (group_of l)) (read_from l (body_at l)).commands (answers (open_tape l).rows (read_from l (body_at l)).commands) (store_of s)
