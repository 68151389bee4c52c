-- The line of an answer whose numbers stand in a list. Assumes nothing.
use Rattle.std.specs.Prelude.{ℕ, cond, List, [], eqb, length, min, get_or}
use Rattle.lines.specs.Lines.{line_text}
use Rattle.metadata.specs.Answers.{report}

-- An answer's number fits in a byte: one above 255, which none has, reads as 255. A list of another length than four is no answer's, and has no line.
unfoldable pub answer_text : ℕ → List ℕ → List ℕ
answer_text line l =
    cond (eqb (length l) 4) (line_text line (report (min (get_or l 0 0) 255) (get_or l 1 0) (get_or l 2 0) (get_or l 3 0))) []
