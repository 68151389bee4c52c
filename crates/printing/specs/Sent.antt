-- What a writer was sent of a text. Assumes nothing.
use Rattle.std.specs.Prelude.{ℕ, ◌≤◌, ◌≡◌, List, length, take, Option, Result, OnOk}
use Rattle.std.specs.Io.KnownBytes.{Appends}

-- All of the text, or, after a failure, a beginning of it. `old` and `new` are what the writer holds where that is known, before and after.
pub record Sent {V E : Type 0} (old new : Option (List ℕ)) (text : List ℕ) (result : Result V E) : Type 0 where
  pub count : ℕ
  pub within : count ≤ length text
  pub wrote : Appends old new (take count text)
  pub all : OnOk result (count ≡ length text)
