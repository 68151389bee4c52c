-- The commands of a tape, one after the other. Assumes nothing.
use Rattle.std.specs.Prelude.{ℕ, ◌*◌, ◌≡◌, true, List, ◌++◌, length, drop}
use Rattle.layout.specs.Layout.{store_of, sound}
use Rattle.metadata.specs.Run.{run}
use Rattle.reading.specs.Reader.{read_from, tape_answers}
use Rattle.answer_numbers.specs.Numbers.{numbers}

-- what the commands from a place on leave: the rows that they lead to, in a store that is sound, and their answers at the start of the list, whose rest is as it was
pub record Done (l : List ℕ) (s₀ : List ℕ) (at₀ : ℕ) (out₀ : List ℕ) (s : List ℕ) (out : List ℕ) : Type 0 where
  pub rows : store_of s ≡ run (store_of s₀) (read_from l at₀).commands
  pub sounds : sound s ≡ true
  pub answered : out ≡ numbers (tape_answers (store_of s₀) (read_from l at₀)) ++ drop (4 * length (tape_answers (store_of s₀) (read_from l at₀))) out₀
