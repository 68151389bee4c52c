-- The ways out of the run's loop, as the code meets them. Assumes nothing.
use Prim.Native.Nat.{ℕ, ◌+◌, ◌*◌, ◌≤◌}
use native.Mathlib.Omega.{arith}
use mathlib.Core.Path.{◌≡◌, refl, sym, ap, ap₂, ◌∙◌, subst}
use mathlib.Core.Bool.{true}
use mathlib.Core.List.{List}
use lib.ListN.{length}
use Rattle.layout.specs.Layout.{store_of, sound, Stepped}
use Rattle.metadata.specs.Answers.{reported}
use Rattle.metadata.specs.Model.{StoreRows, decide}
use Rattle.metadata.specs.declared.Answer.{Answer}
use Rattle.metadata.specs.declared.Answer.TheVariants as A
use Rattle.metadata.specs.declared.kinds.TapeFault.TheVariants as F
use Rattle.metadata.specs.declared.Command.{Command}
use Rattle.reading.specs.declared.Next.{Next}
use Rattle.reading.specs.declared.Next.TheVariants as N
use Rattle.tape_commands.specs.Commands.{Done}
use Rattle.answer_numbers.specs.Numbers.{written}
use Rattle.reading.specs.Reader.{stopped, next_at, read_from, lines, command_at}
use Rattle.reading.proofs.Reading.{wholes, read_unknown, read_cut}
use Rattle.tape_commands.proofs.Running.{Runs, Finished, runs_start, runs_next, next_room, runs_stop, stop-room, runs_end}

-- ---- the loop: the answers so far end at the place

pub record Stands (l : List ℕ) (s₀ : List ℕ) (at₀ : ℕ) (out₀ : List ℕ) (s : List ℕ) (at place : ℕ) (out : List ℕ) : Type 0 where
  pub line : ℕ
  pub there : place ≡ 4 * line
  pub sounds : sound s ≡ true
  pub runs : Runs l (store_of s₀) at₀ out₀ (store_of s) at line out

pub loop_start : (l : List ℕ) (s₀ : List ℕ) (at₀ : ℕ) (out₀ : List ℕ) → sound s₀ ≡ true → 4 * lines (read_from l at₀) ≤ length out₀ → Stands l s₀ at₀ out₀ s₀ at₀ 0 out₀
loop_start l s₀ at₀ out₀ e h = record { line = 0; there = refl; sounds = e; runs = runs_start l (store_of s₀) at₀ out₀ h }

-- x is what stands at the place
module _ (l : List ℕ) (s₀ : List ℕ) (at₀ : ℕ) (out₀ : List ℕ) (s : List ℕ) (at place : ℕ) (out : List ℕ) (x : Next) where
  module _ (k : Stands l s₀ at₀ out₀ s at place out) where
    pub loop_room : (b m : ℕ) → x ≡ next_at l at → x ≡ N.Whole b m → place + 4 ≤ length out
    loop_room b m q e = omega (arith, k.there, next_room l (store_of s₀) at₀ out₀ (store_of s) at k.line out k.runs b m (sym q ∙ e))

    pub loop_next : (b m : ℕ) (c : Command) (a : Answer) (s' : List ℕ) (new : List ℕ) → x ≡ next_at l at → x ≡ N.Whole b m → c ≡ command_at b l (at + 1) →
        Stepped s c s' a → new ≡ written out place (reported a) → Stands l s₀ at₀ out₀ s' m (place + 4) new
    loop_next b m c a s' new q e f d w =
        let h : Stepped s (command_at b l (at + 1)) s' a = subst (λ (y : Command). Stepped s y s' a) f d in
        let written_there : new ≡ written out (4 * k.line) (reported (decide (store_of s) (command_at b l (at + 1)))) =
        w ∙ ap₂ (λ (i : ℕ) (y : Answer). written out i (reported y)) k.there h.answer in
        record {
          line = k.line + 1;
          there = omega (arith, k.there);
          sounds = h.sounds;
          runs =
              subst (λ (n : List ℕ). Runs l (store_of s₀) at₀ out₀ (store_of s') m (k.line + 1) n) (sym written_there)
              (subst (λ (y : StoreRows). Runs l (store_of s₀) at₀ out₀ y m (k.line + 1) (written out (4 * k.line) (reported (decide (store_of s) (command_at b l (at + 1))))))
              (sym h.rows)
              (runs_next l (store_of s₀) at₀ out₀ (store_of s) at k.line out k.runs b m (sym q ∙ e)));
        }

    done : {new : List ℕ} → Finished l (store_of s₀) at₀ out₀ (store_of s) new → Done l s₀ at₀ out₀ s new
    done f = record { rows = f.rows; sounds = k.sounds; answered = f.answered }

    stops : (a : Answer) (new : List ℕ) → read_from l at ≡ stopped a → new ≡ written out place (reported a) → Done l s₀ at₀ out₀ s new
    stops a new e w =
        subst (λ (n : List ℕ). Done l s₀ at₀ out₀ s n) (sym (w ∙ ap (λ (i : ℕ). written out i (reported a)) k.there))
        (done (runs_stop l (store_of s₀) at₀ out₀ (store_of s) at k.line out k.runs a e))

    -- Two laws each for the room and the end, an unknown byte and a command cut short: they are goals of two ways out, each with its own answer.
    pub unknown_room : (b : ℕ) → x ≡ next_at l at → x ≡ N.Unknown b → place + 4 ≤ length out
    unknown_room b q e = omega (arith, k.there, stop-room l (store_of s₀) at₀ out₀ (store_of s) at k.line out k.runs (A.BadTape F.Unknown b) (read_unknown l at b (sym q ∙ e)))

    pub cut_room : (b : ℕ) → x ≡ next_at l at → x ≡ N.Cut b → place + 4 ≤ length out
    cut_room b q e = omega (arith, k.there, stop-room l (store_of s₀) at₀ out₀ (store_of s) at k.line out k.runs (A.BadTape F.Cut b) (read_cut l at b (sym q ∙ e)))

    pub unknown_done : (b : ℕ) (new : List ℕ) → x ≡ next_at l at → x ≡ N.Unknown b → new ≡ written out place (reported (A.BadTape F.Unknown b)) → Done l s₀ at₀ out₀ s new
    unknown_done b new q e w = stops (A.BadTape F.Unknown b) new (read_unknown l at b (sym q ∙ e)) w

    pub cut_done : (b : ℕ) (new : List ℕ) → x ≡ next_at l at → x ≡ N.Cut b → new ≡ written out place (reported (A.BadTape F.Cut b)) → Done l s₀ at₀ out₀ s new
    cut_done b new q e w = stops (A.BadTape F.Cut b) new (read_cut l at b (sym q ∙ e)) w

    pub end_done : x ≡ next_at l at → x ≡ N.End → Done l s₀ at₀ out₀ s out
    end_done q e = done (runs_end l (store_of s₀) at₀ out₀ (store_of s) at k.line out k.runs (sym q ∙ e))

pub loop_sound : (l : List ℕ) (s₀ : List ℕ) (at₀ : ℕ) (out₀ : List ℕ) (s : List ℕ) (at place : ℕ) (out : List ℕ) → Stands l s₀ at₀ out₀ s at place out → sound s ≡ true
loop_sound l s₀ at₀ out₀ s at place out k = k.sounds

-- for `using` on `run_commands`: what its steps ask for, beside the laws of each way out
pub ruleset running = (wholes, loop_start, loop_sound)
