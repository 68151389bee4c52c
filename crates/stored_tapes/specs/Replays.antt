-- A tape that is replayed, whichever way its commands take. Assumes nothing.
use Rattle.std.specs.Prelude.{ℕ, ◌≡◌, true, List, ◌++◌, codes, Option}
use Rattle.std.specs.Io.KnownBytes.{Appends}
use Rattle.dump.specs.Dump.{dump_text}
use Rattle.layout.specs.Layout.{store_of, sound}
use Rattle.metadata.specs.Answers.{is_applied}
use Rattle.reading.specs.Reader.{open_tape}
use Rattle.stored_tapes.specs.declared.Extent.{Extent}
use Rattle.stored_tapes.specs.declared.Extent.TheVariants as X
use Rattle.streaming.specs.Whole.{tape_text}
use Rattle.tape.specs.Tape.{final_store}

-- what is printed of it: its lines, and behind them the final tables and marks, as the tape program prints both
unfoldable pub replay_text : List ℕ → List ℕ
replay_text l = tape_text l ++ dump_text (final_store l)

-- what is printed of a tape by how much of it was replayed: where there is no room for its answers, a line that says so
abbrev pub extent_text : Extent → List ℕ → List ℕ
extent_text X.Whole l = replay_text l
extent_text X.Short l = codes "too many lines\n"

-- its opening was accepted, and a block holds what that gives
pub record AtOpening (l s : List ℕ) : Type 0 where
  pub accepted : is_applied (open_tape l).answer ≡ true
  pub rows : store_of s ≡ (open_tape l).rows
  pub sounds : sound s ≡ true

-- its lines were written, and a block holds its final rows
pub record LinesWritten (l s : List ℕ) (output now : Option (List ℕ)) : Type 0 where
  pub rows : store_of s ≡ final_store l
  pub wrote : Appends output now (tape_text l)
