-- A store that is lent as bytes, its opening and its commands as the tape has them. Assumes nothing.
use Rattle.std.specs.Prelude.{ℕ, ◌*◌, ◌≡◌, Bool, true, false, cond, List, [], ◌++◌, map, leb, ltb, eqb, length, drop, Result, Ok, Err}
use Rattle.answer_numbers.specs.Numbers.{numbers}
use Rattle.laws.specs.Bytes.{byte_at}
use Rattle.layout.specs.Layout.{store_of, sound, Opened}
use Rattle.layout.specs.Places.{store_length}
use Rattle.metadata.specs.Run.{run}
use Rattle.metadata.specs.Rooms.{table_room}
use Rattle.metadata.specs.declared.Answer.{Answer}
use Rattle.metadata.specs.declared.Answer.TheVariants as A
use Rattle.metadata.specs.declared.Command.{Command}
use Rattle.reading.specs.Reader.{Reading, read_from, tape_answers, body_at, open_tape}
use Rattle.store.specs.declared.Fault.{Fault}
use Rattle.store.specs.declared.Fault.TheVariants as F

-- ---- the opening

-- how many bytes of l the opening is: "more than 16 tables is refused after nine bytes"; 0 where it is cut short
unfoldable pub opening_length : List ℕ → ℕ
opening_length l =
    cond (ltb (length l) 9) 0 (cond (ltb table_room (byte_at l 0)) 9 (cond (ltb (length l) (body_at l)) 0 (body_at l)))

-- a store of the block's length is what the opening gives, accepted or refused; one that is cut short is answered, and writes nothing
pub record OpenOf (b l : List ℕ) (r : Result Answer Fault) (b' : List ℕ) : Type 0 where
  pub result : r ≡ cond (eqb (length b) store_length) (Ok (open_tape l).answer) (Err F.NotAStore)
  pub opened : eqb (length b) store_length ≡ true → eqb (opening_length l) 0 ≡ false → Opened (open_tape l) (open_tape l).answer b'
  pub cut : eqb (opening_length l) 0 ≡ true → b' ≡ b
  pub no_store : eqb (length b) store_length ≡ false → b' ≡ b

-- ---- commands

-- each command "10, reason 12, before all else"; and 40 behind them where a byte is no command, or one is cut short
abbrev pub refusals : Reading → List Answer
refusals r = map (λ (c : Command). A.InvalidCommand 12) r.commands ++ r.stop

-- four numbers for each answer at the start of the list, and the rest of it as it was
abbrev pub answered_into : List Answer → List ℕ → List ℕ
answered_into answers out = numbers answers ++ drop (4 * length answers) out

-- what the commands that stand in l are answered: each refused where the block is no sound store
unfoldable pub call_answers : List ℕ → List ℕ → List Answer
call_answers b l = cond (sound b) (tape_answers (store_of b) (read_from l 0)) (refusals (read_from l 0))

-- the list has four numbers for each
abbrev pub fits : List Answer → List ℕ → Bool
fits answers out = leb (4 * length answers) (length out)

-- the commands that a call runs: none where the list is too short
abbrev pub ran_by : List ℕ → List ℕ → List ℕ → List Command
ran_by b l out = cond (fits (call_answers b l) out) (read_from l 0).commands []

pub record ApplyOf (b l out : List ℕ) (r : Result ℕ Fault) (b' out' : List ℕ) : Type 0 where
  pub result : r ≡ cond (fits (call_answers b l) out) (Ok (length (call_answers b l))) (Err F.Short)
  pub answered : out' ≡ cond (fits (call_answers b l) out) (answered_into (call_answers b l) out) out
  pub rows : sound b ≡ true → store_of b' ≡ run (store_of b) (ran_by b l out)
  pub sounds : sound b ≡ true → sound b' ≡ true
  pub no_store : sound b ≡ false → b' ≡ b
  pub short : fits (call_answers b l) out ≡ false → b' ≡ b
