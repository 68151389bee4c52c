-- A whole tape: what its run leaves and writes. Assumes nothing.
use Rattle.std.specs.Prelude.{ℕ, ◌≡◌, Bool, true, false, cond, List, [], ◌∷◌, ◌++◌, take, Option, Some, Result, OnOk, ◌⊎◌}
use Rattle.std.specs.Io.KnownBytes.{Consumes, Appends, IsAtEnd}
use Rattle.chunks.specs.Chunks.{lines_text}
use Rattle.streaming.specs.declared.End.{End}
use Rattle.streaming.specs.declared.End.TheVariants as H
use Rattle.streaming.specs.declared.Failure.{Failure}
use Rattle.streaming.specs.declared.Failure.TheVariants as F
use Rattle.layout.specs.Layout.{store_of, sound}
use Rattle.metadata.specs.Answers.{is_applied}
use Rattle.metadata.specs.Claims.{Claims}
use Rattle.metadata.specs.History.{initial_history}
use Rattle.metadata.specs.Model.{StoreRows}
use Rattle.metadata.specs.Opening.{opening}
use Rattle.metadata.specs.Run.{run, answers}
use Rattle.metadata.specs.declared.Answer.{Answer}
use Rattle.metadata.specs.declared.Command.{Command}
use Rattle.metadata.specs.declared.TableRow.{TableRow}
use Rattle.reading.specs.Places.{Opened}
use Rattle.reading.specs.Reader.{read_from, tables_of, group_of, body_at, open_tape}
use Rattle.tape.specs.Tape.{outcome, final_store}

-- a refused opening is line 0
abbrev pub first_line : List ℕ → ℕ
first_line l = cond (is_applied (open_tape l).answer) 1 0

-- the lines of a tape's answers
abbrev pub tape_text : List ℕ → List ℕ
tape_text l = lines_text (first_line l) (outcome l)

-- how a tape ends: with a last answer, which is 40, or with none, unless its opening is refused
abbrev pub ended_by : List Answer → End
ended_by [] = H.Whole
ended_by (a ∷ l) = H.Stopped

abbrev pub end_of_tape : List ℕ → End
end_of_tape l = cond (is_applied (open_tape l).answer) (ended_by (read_from l (body_at l)).stop) H.Stopped

-- The tape l was run: the store that is left holds its final rows and is sound, and its lines, all of them and nothing else, were written. Where its opening is accepted, the history says all that it says of the tape's commands and their answers.
pub record Ended (l : List ℕ) (how : End) (s : List ℕ) (output now : Option (List ℕ)) : Type 0 where
  pub rows : store_of s ≡ final_store l
  pub sounds : sound s ≡ true
  pub wrote : Appends output now (tape_text l)
  pub how_ended : how ≡ end_of_tape l
  pub history : is_applied (open_tape l).answer ≡ true → Claims (initial_history (tables_of l) (group_of l)) (read_from l (body_at l)).commands (answers (open_tape l).rows (read_from l (body_at l)).commands) (store_of s)

-- `tape` was read, and the tape was run as `tape` says, and as every tape says that `tape` is the beginning of and that the input may have
pub record TapeRun (how : End) (s : List ℕ) (unread after output now : Option (List ℕ)) : Type 0 where
  pub tape : List ℕ
  pub read : Consumes unread after tape
  pub ended : Ended tape how s output now
  pub longer : (more : List ℕ) → after ≡ Some more → Ended (tape ++ more) how s output now

-- the rows after so many of a tape's commands: none of them where its opening is refused
abbrev pub rows_after : ℕ → List ℕ → StoreRows
rows_after n l = cond (is_applied (open_tape l).answer) (run (open_tape l).rows (take n (read_from l (body_at l)).commands)) (open_tape l).rows

-- a beginning of a tape was run, the store that is left is sound, and a beginning of the tape's lines was written
pub record Beginning (l s : List ℕ) (output now : Option (List ℕ)) : Type 0 where
  pub done : ℕ
  pub rows : store_of s ≡ rows_after done l
  pub sounds : sound s ≡ true
  pub count : ℕ
  pub wrote : Appends output now (take count (tape_text l))

-- what a failure leaves: where the opening was not read, the block as it was lent and nothing written, and else a beginning
pub data Failed (l s s' : List ℕ) (output now : Option (List ℕ)) : Type 0 where
  unopened : s' ≡ s → now ≡ output → Failed l s s' output now
  partly : Beginning l s' output now → Failed l s s' output now

-- commands lead from the one store's rows to the other's
pub record Reached (s s' : StoreRows) : Type 0 where
  pub commands : List Command
  pub ran : s' ≡ run s commands

-- commands lead to these rows from what the opening gives, and the history says of them and their answers all that it says
pub record ReachedClaims (tables : List TableRow) (group : ℕ) (s : StoreRows) : Type 0 where
  pub reached : Reached (opening tables group).rows s
  pub claims : Claims (initial_history tables group) reached.commands (answers (opening tables group).rows reached.commands) s

-- whether it is the input that failed, and not the output
abbrev pub is_input : Failure → Bool
is_input (F.Input e) = true
is_input (F.Output e) = false

-- What a failure leaves in the block, whatever the reader: where no opening was read, the block as it was lent; where an opening was refused and its line not written, what a refused opening gives; and behind an accepted opening a sound store that commands lead to.
pub data AfterFailure (f : Failure) (s s' : List ℕ) : Type 0 where
  as_lent : is_input f ≡ true → s' ≡ s → AfterFailure f s s'
  refused : is_input f ≡ false → (l : List ℕ) → is_applied (open_tape l).answer ≡ false → store_of s' ≡ (open_tape l).rows → sound s' ≡ true → AfterFailure f s s'
  behind_opening : (l : List ℕ) → is_applied (open_tape l).answer ≡ true → sound s' ≡ true → ReachedClaims (tables_of l) (group_of l) (store_of s') → AfterFailure f s s'

-- the opening was read: what is at hand has it whole, or the input is at its end
pub record OpeningRead {V E : Type 0} (now : List ℕ) (unread after : Option (List ℕ)) (result : Result V E) : Type 0 where
  pub read : Consumes unread after now
  pub enough : OnOk result (Opened now ⊎ IsAtEnd after)
