-- A call that has one answer. Assumes nothing.
use Rattle.std.specs.Prelude.{ℕ, ◌≡◌, true, List, [], ◌∷◌, Option}
use Rattle.std.specs.Io.KnownBytes.{Appends}
use Rattle.layout.specs.Layout.{store_of, sound}
use Rattle.lines.specs.Lines.{line_text}
use Rattle.metadata.specs.Answers.{reported}
use Rattle.metadata.specs.Run.{run}
use Rattle.metadata.specs.declared.Answer.{Answer}
use Rattle.reading.specs.Reader.{read_from}
use Rattle.store.specs.Slices.{call_answers}

-- the bytes l were applied to a block, and the line of the answer was written
pub record OneAnswer (b l : List ℕ) (line : ℕ) (b' : List ℕ) (output now : Option (List ℕ)) : Type 0 where
  pub answer : Answer
  pub given : call_answers b l ≡ answer ∷ []
  pub wrote : Appends output now (line_text line (reported answer))
  pub rows : sound b ≡ true → store_of b' ≡ run (store_of b) (read_from l 0).commands
  pub sounds : sound b ≡ true → sound b' ≡ true
