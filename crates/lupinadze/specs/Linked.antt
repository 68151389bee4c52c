-- What a caller in C or Rust gets for a whole tape in memory, beside the numbers in its list. Assumes nothing.
use Rattle.std.specs.Prelude.{ℕ, ◌*◌, cond, List, leb, length}
use Rattle.lupinadze.specs.Given.{short}
use Rattle.tape.specs.Tape.{outcome}

-- the number of answers, or `short` where the list's room is below four numbers for each
unfoldable pub run_result : List ℕ → ℕ → ℕ
run_result l room = cond (leb (4 * length (outcome l)) room) (length (outcome l)) short
