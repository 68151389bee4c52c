-- An opening and commands, called from C or Rust on a store that the caller lends. Assumes nothing.
use Rattle.std.specs.Prelude.{ℕ, ◌≡◌, true, false, List, [], ◌∷◌, leb, eqb, length, Some, Result, Ok, Err}
use Rattle.answer_numbers.specs.Numbers.{numbers}
use Rattle.layout.specs.Places.{store_length}
use Rattle.lupinadze.specs.Given.{Said, Given, short, not_a_store}
use Rattle.reading.specs.Reader.{open_tape}
use Rattle.store.specs.Slices.{opening_length, OpenOf, ApplyOf}
use Rattle.store.specs.declared.Fault.{Fault}
use Rattle.store.specs.declared.Fault.TheVariants as F

-- how many bytes of l the opening took, and the four numbers of its answer
abbrev pub opening_said : List ℕ → Said ℕ
opening_said l = record { count = opening_length l; list = numbers ((open_tape l).answer ∷ []) }

-- memory of another length is said first, then a list that is too short: with either the memory stays as it was
pub record OpenCall (b l out : List ℕ) (r : ℕ) (b' out' : List ℕ) : Type 0 where
  pub given : Given (eqb (length b) store_length) (Some (opening_said l)) out r out'
  pub opened : eqb (length b) store_length ≡ true → leb 4 (length out) ≡ true → OpenOf b l (Ok (open_tape l).answer) b'
  pub no_store : eqb (length b) store_length ≡ false → b' ≡ b
  pub short : leb 4 (length out) ≡ false → b' ≡ b

-- the code of a fault
abbrev pub code : Fault → ℕ
code F.Short = short
code F.NotAStore = not_a_store

-- a number of answers, or a code
abbrev pub number_of : Result ℕ Fault → ℕ
number_of (Ok n) = n
number_of (Err f) = code f

-- what the store's own `apply` gives, as a number
pub record ApplyCall (b l out : List ℕ) (n : ℕ) (b' out' : List ℕ) : Type 0 where
  pub given : Result ℕ Fault
  pub applied : ApplyOf b l out given b' out'
  pub number : n ≡ number_of given
