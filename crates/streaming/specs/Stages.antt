-- A tape that is run as it is read, a buffer of it at a time. Assumes nothing.
use Rattle.std.specs.Prelude.{ℕ, ◌≤◌, ◌≡◌, Bool, true, false, List, [], ◌++◌, length, take, drop, Option}
use Rattle.std.specs.Io.KnownBytes.{Consumes, Appends, IsAtEnd}
use Rattle.chunks.specs.Chunks.{lines_text, line_behind}
use Rattle.input.specs.Filled.{rest}
use Rattle.input.specs.declared.Buffer.{Buffer}
use Rattle.layout.specs.Layout.{store_of, sound}
use Rattle.metadata.specs.Run.{run, answers}
use Rattle.metadata.specs.declared.Answer.{Answer}
use Rattle.metadata.specs.declared.Command.{Command}
use Rattle.reading.specs.Places.{Stands, is_whole, is_unknown, stop_of}
use Rattle.reading.specs.Reader.{next_at}
use Rattle.reading.specs.declared.Next.{Next}
use Rattle.reading.specs.declared.Next.TheVariants as N
use Rattle.streaming.specs.declared.End.{End}
use Rattle.streaming.specs.declared.End.TheVariants as H
use Rattle.streaming.specs.declared.Progress.{Progress}
use Rattle.streaming.specs.declared.Progress.TheVariants as P

-- Where a run stands: the bytes at hand that are not run yet, the store, the number of the next line, and the bytes that the input has left and the output holds, where those are known.
pub record Stage : Type 0 where
  pub unrun : List ℕ
  pub store : List ℕ
  pub line : ℕ
  pub unread : Option (List ℕ)
  pub output : Option (List ℕ)

-- From the one stage to the other, `more` was read behind the bytes at hand and `commands` were run; behind their answers `last` was to be written.
pub record Advanced (a b : Stage) (last : List Answer) (all : Bool) : Type 0 where
  pub more : List ℕ
  pub read : Consumes a.unread b.unread more
  -- they are the commands that stand at the start, and what is not run yet is what stands behind them: no byte is lost, doubled or passed over
  pub commands : List Command
  pub place : ℕ
  pub stand : Stands (a.unrun ++ more) 0 commands place
  pub behind : drop place (a.unrun ++ more) ≡ b.unrun
  pub ran : store_of b.store ≡ run (store_of a.store) commands
  pub sounds : sound b.store ≡ true
  pub numbered : b.line ≡ line_behind a.line (answers (store_of a.store) commands)
  -- their lines were written, all of them or, where the output failed, a beginning
  pub count : ℕ
  pub wrote : Appends a.output b.output (take count (lines_text a.line (answers (store_of a.store) commands ++ last)))
  pub written : all ≡ true → length (lines_text a.line (answers (store_of a.store) commands ++ last)) ≤ count

-- how the tape ended, by what stands behind the last command
abbrev pub end_of : Next → End
end_of N.End = H.Whole
end_of (N.Unknown b) = H.Stopped
end_of (N.Cut b) = H.Stopped
end_of (N.Whole b m) = H.Whole

-- The tape is over: no whole command is left, and the input is at its end unless a byte is no command.
pub record Over (a : Stage) (how : End) (s : List ℕ) (unread output : Option (List ℕ)) (all : Bool) : Type 0 where
  pub unrun : List ℕ
  pub line : ℕ
  pub advanced : Advanced a (record { unrun = unrun; store = s; line = line; unread = unread; output = output }) (stop_of (next_at unrun 0)) all
  pub none_whole : is_whole (next_at unrun 0) ≡ false
  pub ended : is_unknown (next_at unrun 0) ≡ false → IsAtEnd unread
  pub how_ended : how ≡ end_of (next_at unrun 0)

-- The input or the output failed, in mid-stream or at the last line: a beginning of the lines was written.
pub data Broken (a : Stage) (s : List ℕ) (unread output : Option (List ℕ)) : Type 0 where
  midway : (unrun : List ℕ) (line : ℕ) → Advanced a (record { unrun = unrun; store = s; line = line; unread = unread; output = output }) [] false → Broken a s unread output
  at_end : (how : End) → Over a how s unread output false → Broken a s unread output

-- after a turn: it goes on at a place of the buffer, with every line written, or the tape is over
abbrev pub AfterBuffer : Stage → Buffer → List ℕ → Option (List ℕ) → Option (List ℕ) → Progress → Type 0
AfterBuffer a b s unread output (P.On p) = (p.at ≤ b.have) × Advanced a (record { unrun = rest b p.at; store = s; line = p.line; unread = unread; output = output }) [] true
AfterBuffer a b s unread output (P.Over how) = Over a how s unread output true
