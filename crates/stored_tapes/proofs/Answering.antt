-- The line of four numbers. Assumes nothing.
use Rattle.std.proofs.Common.{◌≡◌, ℕ, ◌≤◌, ◌<◌, List, [], ◌∷◌, length, refl, ap, ◌∙◌, arith}
use Rattle.std.specs.Prelude.{Option, Ok, min, get_or}
use Rattle.std.proofs.lemmas.Bool.{ne_eqb}
use Rattle.std.proofs.KnownBytes.{Appends-nil}
use Rattle.lines.specs.Lines.{line_text}
use Rattle.answer_numbers.proofs.Numbers.{four_numbers}
use Rattle.answer_numbers.specs.Numbers.{numbers_of}
use Rattle.metadata.specs.Answers.{report, reported}
use Rattle.metadata.specs.declared.Answer.{Answer}
use Rattle.printing.specs.Sent.{Sent}
use Rattle.stored_tapes.specs.AnswerText.{answer_text}

pub no_line : (line : ℕ) (l : List ℕ) → (length l ≡ 4 → ⊥) → answer_text line l ≡ []
unfolding answer_text
no_line line l h = rw (ne_eqb (length l) 4 h) refl

-- too few numbers, or too many
pub answer_short : {V E : Type 0} (old : Option (List ℕ)) (line : ℕ) (l : List ℕ) (v : V) → length l < 4 → Sent {V = V} {E = E} old old (answer_text line l) (Ok v)
answer_short old line l v h = rw (no_line line l (λ e. omega (arith, e))) (record { count = 0; within = omega arith; wrote = Appends-nil old; all = refl })

pub answer_long : {V E : Type 0} (old : Option (List ℕ)) (line : ℕ) (l : List ℕ) (v : V) → 5 ≤ length l → Sent {V = V} {E = E} old old (answer_text line l) (Ok v)
answer_long old line l v h = rw (no_line line l (λ e. omega (arith, e))) (record { count = 0; within = omega arith; wrote = Appends-nil old; all = refl })

pub answer_line : (line : ℕ) (l : List ℕ) → length l ≡ 4 → answer_text line l ≡ line_text line (report (min (get_or l 0 0) 255) (get_or l 1 0) (get_or l 2 0) (get_or l 3 0))
unfolding answer_text
answer_line line l e = rw e refl

-- ---- the numbers of an answer

in_a_byte : (a : Answer) → (reported a).number ≤ 255
in_a_byte a = grind arith

of_numbers : (line n : ℕ) (ops : List ℕ) → length (n ∷ ops) ≡ 4 → n ≤ 255 → answer_text line (n ∷ ops) ≡ line_text line (record { number = n; operands = ops })
of_numbers line n (a ∷ b ∷ c ∷ []) e h = let z : min n 255 ≡ n = omega arith in answer_line line (n ∷ a ∷ b ∷ c ∷ []) refl ∙ ap (λ (m : ℕ). line_text line (report m a b c)) z
of_numbers line n _ e h = absurd (omega arith)

pub answer_as : (line : ℕ) (a : Answer) → answer_text line (numbers_of (reported a)) ≡ line_text line (reported a)
answer_as line a = of_numbers line (reported a).number (reported a).operands (four_numbers a) (in_a_byte a)

pub ruleset answering = (answer_short, answer_long, answer_line)
