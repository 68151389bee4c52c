-- Places of a tape: which commands stand from one place on, and the place behind the last of them. Assumes nothing.
use Rattle.std.specs.Prelude.{ℕ, ◌+◌, ◌≤◌, ◌<◌, ◌≡◌, ◌⊎◌, Bool, true, false, List, [], ◌∷◌, length}
use Rattle.laws.specs.Bytes.{byte_at}
use Rattle.metadata.specs.Rooms.{table_room}
use Rattle.metadata.specs.declared.Answer.{Answer}
use Rattle.metadata.specs.declared.Answer.TheVariants as A
use Rattle.metadata.specs.declared.kinds.TapeFault.TheVariants as F
use Rattle.metadata.specs.declared.Command.{Command}
use Rattle.reading.specs.declared.Next.{Next}
use Rattle.reading.specs.declared.Next.TheVariants as N
use Rattle.reading.specs.Reader.{next_at, command_at, body_at}

-- these commands stand from the one place on, and the other is the place behind them
pub data Stands (l : List ℕ) : ℕ → List Command → ℕ → Type 0 where
  none : {at : ℕ} → Stands l at [] at
  one : {at b m : ℕ} {cs : List Command} {e : ℕ} → next_at l at ≡ N.Whole b m → Stands l m cs e → Stands l at (command_at b l (at + 1) ∷ cs) e

abbrev pub is_whole : Next → Bool
is_whole N.End = false
is_whole (N.Unknown b) = false
is_whole (N.Cut b) = false
is_whole (N.Whole b m) = true

abbrev pub is_unknown : Next → Bool
is_unknown N.End = false
is_unknown (N.Unknown b) = true
is_unknown (N.Cut b) = false
is_unknown (N.Whole b m) = false

-- "40 (1 unknown byte or 2 cut short, command byte)": the last answer of a tape that ends with what stands here
abbrev pub stop_of : Next → List Answer
stop_of N.End = []
stop_of (N.Unknown b) = A.BadTape F.Unknown b ∷ []
stop_of (N.Cut b) = A.BadTape F.Cut b ∷ []
stop_of (N.Whole b m) = []

-- The opening of a tape is there: its head and, unless that has more tables than there is room for, its rows.
pub record Opened (l : List ℕ) : Type 0 where
  pub head : 9 ≤ length l
  pub whole : (table_room < byte_at l 0) ⊎ (body_at l ≤ length l)
