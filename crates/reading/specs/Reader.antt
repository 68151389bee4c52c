-- What a tape holds (document 01, "the command tape"): its opening, and the commands behind it. Assumes nothing.
use Rattle.std.specs.Prelude.{ℕ, zero, suc, ◌+◌, ◌*◌, ◌-◌, Bool, cond, ◌&&◌, List, [], ◌∷◌, ◌++◌, leb, ltb, eqb, length}
use Rattle.laws.specs.Bytes.{number_at, byte_at}
use Rattle.decode.specs.Decode.{name_at, node_at, tablet_at, placement_at, retirement_at, table_at, list_at}
use Rattle.metadata.specs.Rooms.{table_room}
use Rattle.metadata.specs.Opening.{opening, refused_rows}
use Rattle.metadata.specs.Model.{StoreRows, Outcome}
use Rattle.metadata.specs.Run.{answers}
use Rattle.metadata.specs.declared.Answer.{Answer}
use Rattle.metadata.specs.declared.Answer.TheVariants as A
use Rattle.metadata.specs.declared.kinds.TapeFault.TheVariants as F
use Rattle.metadata.specs.declared.Command.{Command}
use Rattle.metadata.specs.declared.Command.TheVariants.{Naming as naming, Registering as registering, Lifecycle as lifecycle, Tablet as tablet, Placement as placement, Retirement as retirement, Picking as picking}
use Rattle.metadata.specs.declared.TableRow.{TableRow}
use Rattle.reading.specs.declared.Next.{Next}
use Rattle.reading.specs.declared.Next.TheVariants as N

-- ---- commands

-- 01 to 07
abbrev pub is_command : ℕ → Bool
is_command b = leb 1 b && leb b 7

-- how many operand bytes a command has
unfoldable pub size_of : ℕ → ℕ
size_of b = cond (eqb b 1) 49 (cond (eqb b 2) 305 (cond (eqb b 3) 9 (cond (eqb b 4) 107 (cond (eqb b 5) 234 (cond (eqb b 6) 48 0)))))

-- the command with this byte and its operands from a place on
unfoldable pub command_at : ℕ → List ℕ → ℕ → Command
command_at b l at =
    cond (eqb b 1) (naming (name_at l at))
    (cond (eqb b 2) (registering (node_at l at))
    (cond (eqb b 3) (lifecycle (record { 0 = number_at 8 l at }) (byte_at l (at + 8)))
    (cond (eqb b 4) (tablet (tablet_at l at))
    (cond (eqb b 5) (placement (placement_at l at)) (cond (eqb b 6) (retirement (retirement_at l at)) picking)))))

-- ---- what a tape holds: whole commands, and then nothing or "40 (1 unknown byte or 2 cut short, command byte)"

pub record Reading : Type 0 where
  pub commands : List Command
  pub stop : List Answer

abbrev pub ended : Reading
ended = record { commands = []; stop = [] }

abbrev pub stopped : Answer → Reading
stopped a = record { commands = []; stop = a ∷ [] }

abbrev pub then : Command → Reading → Reading
then c r = record { commands = c ∷ r.commands; stop = r.stop }

-- what stands at a place: the end, an unknown byte, a command cut short, or a whole command and where the next begins
unfoldable pub next_at : List ℕ → ℕ → Next
next_at l at =
    cond (leb (length l) at) N.End
    (cond (is_command (byte_at l at))
    (cond (leb ((at + 1) + size_of (byte_at l at)) (length l)) (N.Whole (byte_at l at) ((at + 1) + size_of (byte_at l at))) (N.Cut (byte_at l at)))
    (N.Unknown (byte_at l at)))

abbrev pub on_next : Next → (ℕ → ℕ → Reading) → Reading
on_next N.End f = ended
on_next (N.Unknown b) f = stopped (A.BadTape F.Unknown b)
on_next (N.Cut b) f = stopped (A.BadTape F.Cut b)
on_next (N.Whole b m) f = f b m

-- from a place on; n is at least the number of bytes left
unfoldable pub read : ℕ → List ℕ → ℕ → Reading
read zero l at = ended
read (suc n) l at = on_next (next_at l at) (λ b m. then (command_at b l (at + 1)) (read n l m))

abbrev pub read_from : List ℕ → ℕ → Reading
read_from l at = read (length l - at) l at

-- a line for each command, and one more where the tape stops
abbrev pub lines : Reading → ℕ
lines r = length r.commands + length r.stop

-- every answer, the last 40 included
abbrev pub tape_answers : StoreRows → Reading → List Answer
tape_answers s r = answers s r.commands ++ r.stop

-- ---- "Opening: table count 1 byte, group mark 8, then per table id 8 and tablet count 4"

abbrev pub tables_of : List ℕ → List TableRow
tables_of l = list_at table_at 12 (byte_at l 0) l 9

abbrev pub group_of : List ℕ → ℕ
group_of l = number_at 8 l 1

-- where the commands begin
abbrev pub body_at : List ℕ → ℕ
body_at l = 9 + 12 * byte_at l 0

abbrev pub cut_opening : Outcome
cut_opening = record { answer = A.BadTape F.Cut 0; rows = refused_rows }

-- "one cut short prints `0 40 2 0 0`; more than 16 tables is refused after nine bytes"
unfoldable pub open_tape : List ℕ → Outcome
open_tape l =
    cond (ltb (length l) 9)
    cut_opening
    (cond (ltb table_room (byte_at l 0))
    (record { answer = A.InvalidCommand 10; rows = refused_rows })
    (cond (ltb (length l) (body_at l)) cut_opening (opening (tables_of l) (group_of l))))
