-- A line by its number, counted from 0; lines on their way out. Assumes nothing.
use Rattle.std.specs.Prelude.{ℕ, ◌≡◌, ◌-◌, ◌<◌, ◌≤◌, Bool, cond, List, [], ◌++◌, ltb, length, take, get_or, Option, Some, None}
use Rattle.std.specs.List.{concat}

-- the line under a number: whether there is one, and its text; behind the last there is no line, and no text
pub record LineAt (lines : List (List ℕ)) (i : ℕ) (text : List ℕ) (found : Bool) : Type 0 where
  pub there : found ≡ ltb i (length lines)
  pub line : text ≡ get_or lines i []

-- a number counted on from behind these lines; none where one of them has it
abbrev pub number_behind : List (List ℕ) → ℕ → Option ℕ
number_behind lines i = cond (ltb i (length lines)) None (Some (i - length lines))

-- a line sought among these, which are a part of all: its text where it is one of them, else no text, and its number from behind them on
pub record Sought (lines : List (List ℕ)) (i : ℕ) (text : List ℕ) (behind : Option ℕ) : Type 0 where
  pub number : behind ≡ number_behind lines i
  pub line : text ≡ get_or lines i []

-- the lines from number `from` on, one behind the other, up to number `next`, which is not among them; there is at least one where any is left
pub record Gathered (lines : List (List ℕ)) (from next : ℕ) (text : List ℕ) : Type 0 where
  pub joined : concat (take from lines) ++ text ≡ concat (take next lines)
  pub forward : from ≤ next
  pub within : next ≤ length lines
  pub some : from < length lines → from < next
