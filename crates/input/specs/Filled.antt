-- What is at hand of a buffer, and what it is after more was read. Assumes nothing.
use Rattle.std.specs.Prelude.{ℕ, ◌≤◌, ◌<◌, ◌≡◌, ◌⊎◌, List, [], ◌++◌, length, take, drop, Option, Result, IfOk, OnOk, OnErr}
use Rattle.std.specs.Io.KnownBytes.{Consumes, IsAtEnd}
use Rattle.input.specs.Buffers.{buffer_size}
use Rattle.input.specs.declared.Buffer.{Buffer}

-- the bytes at hand
abbrev pub hand : Buffer → List ℕ
hand b = take b.have b.bytes

-- those of them from a place on
abbrev pub rest : Buffer → ℕ → List ℕ
rest b at = drop at (hand b)

-- `left` was at hand, and `more` was read behind it: `unread` and `after` are what the input has left where that is known, before and after
pub record Filled {E : Type 0} (left : List ℕ) (now : List ℕ) (unread after : Option (List ℕ)) (result : Result ℕ E) : Type 0 where
  pub more : List ℕ
  pub read : Consumes unread after more
  pub bytes : now ≡ left ++ more
  pub came : IfOk result (λ n. n ≡ length more)
  -- nothing came only at the end of the input, or where the buffer had no room
  pub ended : IfOk result (λ n. n ≡ 0 → length left < buffer_size → IsAtEnd after)
  pub failed : OnErr result (more ≡ [])

-- the same in as many reads as it took until so many bytes were at hand, or the input was at its end
pub record Grown {V E : Type 0} (left : List ℕ) (now : List ℕ) (unread after : Option (List ℕ)) (least : ℕ) (result : Result V E) : Type 0 where
  pub more : List ℕ
  pub read : Consumes unread after more
  pub bytes : now ≡ left ++ more
  pub enough : OnOk result ((least ≤ length now) ⊎ IsAtEnd after)
