-- The buffer that holds a part of the tape. Assumes nothing.
use Rattle.std.specs.Prelude.{ℕ}

-- how much of the tape is held
abbrev pub buffer_size : ℕ
buffer_size = 65536
