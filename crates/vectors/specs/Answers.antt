-- The lines of answers whose numbers stand in a list, four for each. Assumes nothing.
use Rattle.std.specs.Prelude.{ℕ, zero, suc, List, [], ◌++◌, take, drop}
use Rattle.chunks.specs.Chunks.{next_line}
use Rattle.stored_tapes.specs.AnswerText.{answer_text}

-- the first so many, the first of them with this number
unfoldable pub answers_text : ℕ → ℕ → List ℕ → List ℕ
answers_text line zero l = []
answers_text line (suc n) l = answer_text line (take 4 l) ++ answers_text (next_line line) n (drop 4 l)
