-- The line of an answer, as its pieces are written: a space stands before each number but the first. Assumes nothing.
use Rattle.std.proofs.Common.{◌≡◌, ℕ, List, [], ◌∷◌, ◌++◌, get_or, codes, append_assoc}
use Rattle.metadata.specs.declared.Reported.{Reported}
use Rattle.lines.specs.Lines.{number_text, line_text}

pub line_pieces : (out : List ℕ) (line : ℕ) (r : Reported) →
    out ++ line_text line r
    ≡ (((((out ++ number_text line) ++ codes " " ++ number_text r.number) ++ codes " " ++ number_text (get_or r.operands 0 0)) ++ codes " " ++ number_text (get_or r.operands 1 0)) ++ codes " " ++ number_text (get_or r.operands 2 0)) ++ 10 ∷ []
unfolding line_text
line_pieces out line r = simp append_assoc
