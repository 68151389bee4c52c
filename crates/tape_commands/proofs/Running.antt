-- A tape run command by command, its answers written as numbers. Assumes nothing.
use Prim.Native.Nat.{ℕ, suc, ◌+◌, ◌*◌, ◌≤◌}
use native.Mathlib.Omega.{arith}
use mathlib.Core.Path.{◌≡◌, refl, sym, ap, ◌∙◌}
use mathlib.Core.List.{List, [], ◌∷◌, ◌++◌}
use lib.ListN.{length, drop, length-append, length-drop}
use lib.Seq.{drop-drop}
use Rattle.metadata.specs.Answers.{reported}
use Rattle.metadata.specs.declared.Command.{Command}
use Rattle.metadata.specs.Model.{StoreRows, step}
use Rattle.metadata.specs.Run.{run, answers}
use Rattle.metadata.specs.declared.Answer.{Answer}
use Rattle.reading.specs.declared.Next.TheVariants as N
use Rattle.answer_numbers.specs.Numbers.{numbers, written}
use Rattle.reading.specs.Reader.{Reading, ended, stopped, next_at, read_from, tape_answers, command_at}
use Rattle.reading.proofs.Reading.{read_end, read_whole}
use Rattle.answer_numbers.proofs.Numbers.{Written, written_none, written-room, written_one, whole_out}

-- ---- the run

answers-length : (s : StoreRows) (cs : List Command) → length (answers s cs) ≡ length cs
answers-length s [] = refl
answers-length s (c ∷ cs) = ap suc (answers-length (step s c).rows cs)

-- a line for each command, and one more where the tape stops
pub lines-length : (s : StoreRows) (r : Reading) → length (tape_answers s r) ≡ length r.commands + length r.stop
lines-length s r = length-append (answers s r.commands) r.stop ∙ omega (arith, answers-length s r.commands)

-- after some commands: the rows and what is left to answer are those of the whole run, and the answers so far are written
pub record Runs (l : List ℕ) (s₀ : StoreRows) (at₀ : ℕ) (out₀ : List ℕ) (s : StoreRows) (at line : ℕ) (out : List ℕ) : Type 0 where
  pub rows : run s₀ (read_from l at₀).commands ≡ run s (read_from l at).commands
  pub rest : drop line (tape_answers s₀ (read_from l at₀)) ≡ tape_answers s (read_from l at)
  pub wrote : Written (tape_answers s₀ (read_from l at₀)) out₀ out line

pub runs_start : (l : List ℕ) (s₀ : StoreRows) (at₀ : ℕ) (out₀ : List ℕ) →
    4 * (length (read_from l at₀).commands + length (read_from l at₀).stop) ≤ length out₀ → Runs l s₀ at₀ out₀ s₀ at₀ 0 out₀
runs_start l s₀ at₀ out₀ h =
    record { rows = refl; rest = refl; wrote = written_none (tape_answers s₀ (read_from l at₀)) out₀ (omega (arith, lines-length s₀ (read_from l at₀))) }

-- where all is run: the rows that are left, and the list
pub record Finished (l : List ℕ) (s₀ : StoreRows) (at₀ : ℕ) (out₀ : List ℕ) (s : StoreRows) (out : List ℕ) : Type 0 where
  pub rows : s ≡ run s₀ (read_from l at₀).commands
  pub answered : out ≡ numbers (tape_answers s₀ (read_from l at₀)) ++ drop (4 * length (tape_answers s₀ (read_from l at₀))) out₀

module _ (l : List ℕ) (s₀ : StoreRows) (at₀ : ℕ) (out₀ : List ℕ) (s : StoreRows) (at line : ℕ) (out : List ℕ) (k : Runs l s₀ at₀ out₀ s at line out) where
  -- ---- a whole command
  module _ (b m : ℕ) (e : next_at l at ≡ N.Whole b m) where
    left : drop line (tape_answers s₀ (read_from l at₀))
        ≡ (step s (command_at b l (at + 1))).answer ∷ tape_answers (step s (command_at b l (at + 1))).rows (read_from l m)
    left = k.rest ∙ ap (tape_answers s) (read_whole l at b m e)

    pub next_room : 4 * line + 4 ≤ length out
    next_room = written-room (tape_answers s₀ (read_from l at₀)) out₀ out line k.wrote _ _ left

    pub runs_next : Runs l s₀ at₀ out₀ (step s (command_at b l (at + 1))).rows m (line + 1) (written out (4 * line) (reported (step s (command_at b l (at + 1))).answer))
    runs_next =
        record {
          rows = k.rows ∙ ap (λ (r : Reading). run s r.commands) (read_whole l at b m e);
          rest = sym (drop-drop 1 line (tape_answers s₀ (read_from l at₀))) ∙ ap (drop 1) left;
          wrote = written_one (tape_answers s₀ (read_from l at₀)) out₀ out line k.wrote _ _ left;
        }

  -- ---- the tape stops at an unknown byte or a command cut short
  module _ (a : Answer) (e : read_from l at ≡ stopped a) where
    pub stop-room : 4 * line + 4 ≤ length out
    stop-room = written-room (tape_answers s₀ (read_from l at₀)) out₀ out line k.wrote a [] (k.rest ∙ ap (tape_answers s) e)

    pub runs_stop : Finished l s₀ at₀ out₀ s (written out (4 * line) (reported a))
    runs_stop =
        let r : drop line (tape_answers s₀ (read_from l at₀)) ≡ a ∷ [] = k.rest ∙ ap (tape_answers s) e in
        record {
          rows = sym (k.rows ∙ ap (λ (x : Reading). run s x.commands) e);
          answered = whole_out (tape_answers s₀ (read_from l at₀)) out₀ _ (line + 1) (written_one (tape_answers s₀ (read_from l at₀)) out₀ out line k.wrote a [] r)
              (omega (arith, ap length r, length-drop line (tape_answers s₀ (read_from l at₀))));
        }

  -- ---- the tape ends
  pub runs_end : next_at l at ≡ N.End → Finished l s₀ at₀ out₀ s out
  runs_end e =
      let q : read_from l at ≡ ended = read_end l at e in
      record {
        rows = sym (k.rows ∙ ap (λ (x : Reading). run s x.commands) q);
        answered = whole_out (tape_answers s₀ (read_from l at₀)) out₀ out line k.wrote
            (omega (arith, ap length (k.rest ∙ ap (tape_answers s) q), length-drop line (tape_answers s₀ (read_from l at₀))));
      }
