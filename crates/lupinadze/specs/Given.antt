-- What a function gives to a caller in C or Rust: a code, or a count and what it writes at the start of a lent list (bytes, or numbers). Assumes nothing.
use Rattle.std.specs.Prelude.{ℕ, ◌≡◌, Bool, cond, List, ◌++◌, leb, length, drop, Option, Some, None}

-- ---- the codes. None is a count, since no list has room for so many

-- a list is too short
abbrev pub short : ℕ
short = 18446744073709551615

-- memory of another length, or a store that is not sound
abbrev pub not_a_store : ℕ
not_a_store = 18446744073709551614

-- there is no such row, line or number
abbrev pub none : ℕ
none = 18446744073709551613

-- ---- what is given

-- a count, and what is written
pub record Said (A : Type 0) : Type 0 where
  pub count : ℕ
  pub list : List A

-- a list, and how long it is
abbrev pub said : {A : Type 0} → List A → Said A
said l = record { count = length l; list = l }

-- first whether there is such a thing, then whether the list has room
abbrev pub given_count : {A : Type 0} → Option (Said A) → List A → ℕ
given_count None out = none
given_count (Some s) out = cond (leb (length s.list) (length out)) s.count short

-- at the start of the list, and the rest of it as it was; nothing is written with a code
abbrev pub given_list : {A : Type 0} → Option (Said A) → List A → List A
given_list None out = out
given_list (Some s) out = cond (leb (length s.list) (length out)) (s.list ++ drop (length s.list) out) out

-- before all else, whether the memory is a store
pub record Given {A : Type 0} (is_store : Bool) (o : Option (Said A)) (out : List A) (r : ℕ) (out' : List A) : Type 0 where
  pub result : r ≡ cond is_store (given_count o out) not_a_store
  pub list : out' ≡ cond is_store (given_list o out) out
