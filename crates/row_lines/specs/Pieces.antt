-- The pieces of a line: numbers and texts, each with a space before it. "A text or key as `=` and its bytes in lower-case hexadecimal,
-- `-` where absent." Assumes nothing.
use Rattle.std.specs.Prelude.{ℕ, ◌+◌, ◌/◌, ◌%◌, cond, List, [], ◌∷◌, ◌++◌, ltb, codes}
use Rattle.std.specs.List.{flat_map}
use Rattle.lines.specs.Lines.{number_text}
use Rattle.text.specs.Texts.{text_of}
use Rattle.text.specs.declared.Optional.{Optional}
use Rattle.text.specs.declared.Text.{Text}

-- " 17"
abbrev pub number : ℕ → List ℕ
number n = codes " " ++ number_text n

-- " 17 18 19"
abbrev pub three_numbers : ℕ → ℕ → ℕ → List ℕ
three_numbers a b c = number a ++ number b ++ number c

-- a digit below 16: 0 to 9, a to f
abbrev pub hex_digit : ℕ → ℕ
hex_digit d = cond (ltb d 10) (d + 48) (d + 87)

-- a byte: "0a"
abbrev pub hex_pair : ℕ → List ℕ
hex_pair b = hex_digit (b / 16) ∷ hex_digit (b % 16) ∷ []

module _ {width : ℕ} where
  -- a name, a label or a key: " =6162"; for the unbounded key " ="
  unfoldable pub text_field : Text width → List ℕ
  text_field t = codes " =" ++ flat_map hex_pair (text_of t)

  -- a text that may be absent: " =6162" or " -"
  unfoldable pub optional_field : Optional width → List ℕ
  optional_field t = cond t.present (text_field t.text) (codes " -")

-- a line's end
abbrev pub line_end : List ℕ
line_end = 10 ∷ []
