-- A chunk of the tape: what was run of it, and the lines of its answers. Assumes nothing.
use Rattle.std.specs.Prelude.{◌≡◌, ℕ, Bool, ◌+◌, ◌%◌, ◌^◌, ◌<◌, ◌≤◌, true, false, List, [], ◌∷◌, ◌++◌, length}
use Rattle.layout.specs.Layout.{store_of, sound}
use Rattle.lines.specs.Lines.{line_text}
use Rattle.metadata.specs.Answers.{reported}
use Rattle.metadata.specs.declared.Command.{Command}
use Rattle.metadata.specs.Run.{run, answers}
use Rattle.metadata.specs.declared.Answer.{Answer}
use Rattle.reading.specs.Places.{Stands, stop_of, is_whole, is_unknown}
use Rattle.reading.specs.Reader.{next_at}
use Rattle.reading.specs.declared.Next.{Next}
use Rattle.chunks.specs.declared.Chunk.{Chunk}
use Rattle.chunks.specs.declared.Pause.{Pause}
use Rattle.chunks.specs.declared.Pause.TheVariants as P

-- five numbers of at most twenty digits, and a byte behind each
abbrev pub line_room : ℕ
line_room = 105

-- lines are numbered in 64 bits
abbrev pub next_line : ℕ → ℕ
next_line n = (n + 1) % 2 ^ 64

-- the lines of answers, the first with this number
unfoldable pub lines_text : ℕ → List Answer → List ℕ
lines_text n [] = []
lines_text n (a ∷ l) = line_text n (reported a) ++ lines_text (next_line n) l

-- the number of the line behind them
unfoldable pub line_behind : ℕ → List Answer → ℕ
line_behind n [] = n
line_behind n (a ∷ l) = line_behind (next_line n) l

-- the tape stops at a byte that is no command
abbrev pub is_stopped : Pause → Bool
is_stopped P.Full = false
is_stopped P.Stopped = true
is_stopped P.Short = false

-- the output has no room for a line
abbrev pub is_full : Pause → Bool
is_full P.Full = true
is_full P.Stopped = false
is_full P.Short = false

-- The answer that a chunk writes behind those of its commands, by why it stopped and what stands there: a byte that is no command is said, a command cut short is not, since more may follow.
abbrev pub last_of : Pause → Next → List Answer
last_of P.Full x = []
last_of P.Stopped x = stop_of x
last_of P.Short x = []

-- A chunk l was run on a store s, its lines put behind what stood in a text with this room; s' is the store that is left: its rows are those that the commands leave, and it is sound.
pub record ChunkRun (room : ℕ) (l : List ℕ) (s : List ℕ) (first : ℕ) (old : List ℕ) (c : Chunk) (s' : List ℕ) (new : List ℕ) : Type 0 where
  -- which were run: the first that stand there, and `at` is the place behind the last
  pub commands : List Command
  pub stand : Stands l 0 commands c.at
  pub ran : store_of s' ≡ run (store_of s) commands
  -- what is written is their lines, and that of a byte that is no command where it stops at one
  pub text : new ≡ old ++ lines_text first (answers (store_of s) commands ++ last_of c.pause (next_at l c.at))
  pub line : c.line ≡ line_behind first (answers (store_of s) commands)
  pub sounds : sound s' ≡ true
  pub inside : c.at ≤ length l
  -- it leaves a whole command only where a line has no room, and stops only at a byte that is no command
  pub room_left : is_full c.pause ≡ true → room < length new + line_room
  pub all : is_full c.pause ≡ false → is_whole (next_at l c.at) ≡ false
  pub stops : is_full c.pause ≡ false → is_stopped c.pause ≡ is_unknown (next_at l c.at)
