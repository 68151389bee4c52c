-- Commands refused one after the other, on memory that is no sound store: the answers so far end at the place. Assumes nothing.
use Prim.Native.Nat.{ℕ, suc, ◌+◌, ◌*◌, ◌≤◌}
use native.Mathlib.Omega.{arith}
use mathlib.Core.Path.{◌≡◌, refl, sym, ap, ◌∙◌, subst}
use mathlib.Core.List.{List, [], ◌∷◌, map}
use lib.ListN.{length, drop, length-append, length-drop}
use lib.Seq.{drop-drop}
use Rattle.answer_numbers.proofs.Numbers.{Written, written_none, written-room, written_one, whole_out}
use Rattle.answer_numbers.specs.Numbers.{written}
use Rattle.metadata.specs.Answers.{reported}
use Rattle.metadata.specs.declared.Answer.{Answer}
use Rattle.metadata.specs.declared.Answer.TheVariants as A
use Rattle.metadata.specs.declared.Command.{Command}
use Rattle.metadata.specs.declared.kinds.TapeFault.TheVariants as F
use Rattle.reading.proofs.Reading.{wholes, read_end, read_unknown, read_cut, read_whole}
use Rattle.reading.specs.Reader.{Reading, stopped, next_at, read_from, lines}
use Rattle.reading.specs.declared.Next.{Next}
use Rattle.reading.specs.declared.Next.TheVariants as N
use Rattle.store.specs.Slices.{refusals, answered_into}

-- a line for each command, and one more where the tape stops
refused-each : (cs : List Command) → length (map (λ (c : Command). A.InvalidCommand 12) cs) ≡ length cs
refused-each [] = refl
refused-each (c ∷ cs) = ap suc (refused-each cs)

pub refusals-length : (r : Reading) → length (refusals r) ≡ lines r
refusals-length r = length-append (map (λ (c : Command). A.InvalidCommand 12) r.commands) r.stop ∙ omega (arith, refused-each r.commands)

pub record Stands (l out₀ : List ℕ) (at place : ℕ) (out : List ℕ) : Type 0 where
  pub line : ℕ
  pub there : place ≡ 4 * line
  pub rest : drop line (refusals (read_from l 0)) ≡ refusals (read_from l at)
  pub wrote : Written (refusals (read_from l 0)) out₀ out line

pub loop_start : (l out₀ : List ℕ) → 4 * lines (read_from l 0) ≤ length out₀ → Stands l out₀ 0 0 out₀
loop_start l out₀ h =
    record { line = 0; there = refl; rest = refl; wrote = written_none (refusals (read_from l 0)) out₀ (omega (arith, refusals-length (read_from l 0))) }

-- x is what stands at the place
module _ (l out₀ : List ℕ) (at place : ℕ) (out : List ℕ) (x : Next) (k : Stands l out₀ at place out) where
  -- one more answer is left
  module _ (a : Answer) (more : List Answer) (e : drop k.line (refusals (read_from l 0)) ≡ a ∷ more) where
    room : place + 4 ≤ length out
    room = omega (arith, k.there, written-room (refusals (read_from l 0)) out₀ out k.line k.wrote a more e)

    wrote_one : (new : List ℕ) → new ≡ written out place (reported a) → Written (refusals (read_from l 0)) out₀ new (k.line + 1)
    wrote_one new w =
        subst (λ (n : List ℕ). Written (refusals (read_from l 0)) out₀ n (k.line + 1)) (sym (w ∙ ap (λ (i : ℕ). written out i (reported a)) k.there))
        (written_one (refusals (read_from l 0)) out₀ out k.line k.wrote a more e)

  module _ (b m : ℕ) (q : x ≡ next_at l at) (e : x ≡ N.Whole b m) where
    left : drop k.line (refusals (read_from l 0)) ≡ A.InvalidCommand 12 ∷ refusals (read_from l m)
    left = k.rest ∙ ap refusals (read_whole l at b m (sym q ∙ e))

    pub loop_room : place + 4 ≤ length out
    loop_room = room (A.InvalidCommand 12) (refusals (read_from l m)) left

    pub loop_next : (a : Answer) (new : List ℕ) → a ≡ A.InvalidCommand 12 → new ≡ written out place (reported a) → Stands l out₀ m (place + 4) new
    loop_next a new p w =
        record {
          line = k.line + 1;
          there = omega (arith, k.there);
          rest = sym (drop-drop 1 k.line (refusals (read_from l 0))) ∙ ap (drop 1) left;
          wrote = wrote_one (A.InvalidCommand 12) (refusals (read_from l m)) left new (w ∙ ap (λ (y : Answer). written out place (reported y)) p);
        }

  module _ (a : Answer) (e : read_from l at ≡ stopped a) where
    last : drop k.line (refusals (read_from l 0)) ≡ a ∷ []
    last = k.rest ∙ ap refusals e

    stops : (new : List ℕ) → new ≡ written out place (reported a) → new ≡ answered_into (refusals (read_from l 0)) out₀
    stops new w =
        whole_out (refusals (read_from l 0)) out₀ new (k.line + 1) (wrote_one a [] last new w) (omega (arith, ap length last, length-drop k.line (refusals (read_from l 0))))

  -- Two laws each for the room and the end, an unknown byte and a command cut short: they are goals of two ways out, each with its own answer.
  pub unknown_room : (b : ℕ) → x ≡ next_at l at → x ≡ N.Unknown b → place + 4 ≤ length out
  unknown_room b q e = let f = read_unknown l at b (sym q ∙ e) in room (A.BadTape F.Unknown b) [] (last (A.BadTape F.Unknown b) f)

  pub cut_room : (b : ℕ) → x ≡ next_at l at → x ≡ N.Cut b → place + 4 ≤ length out
  cut_room b q e = let f = read_cut l at b (sym q ∙ e) in room (A.BadTape F.Cut b) [] (last (A.BadTape F.Cut b) f)

  pub unknown_done : (b : ℕ) (new : List ℕ) → x ≡ next_at l at → x ≡ N.Unknown b → new ≡ written out place (reported (A.BadTape F.Unknown b)) →
      new ≡ answered_into (refusals (read_from l 0)) out₀
  unknown_done b new q e w = stops (A.BadTape F.Unknown b) (read_unknown l at b (sym q ∙ e)) new w

  pub cut_done : (b : ℕ) (new : List ℕ) → x ≡ next_at l at → x ≡ N.Cut b → new ≡ written out place (reported (A.BadTape F.Cut b)) →
      new ≡ answered_into (refusals (read_from l 0)) out₀
  cut_done b new q e w = stops (A.BadTape F.Cut b) (read_cut l at b (sym q ∙ e)) new w

  pub end_done : x ≡ next_at l at → x ≡ N.End → out ≡ answered_into (refusals (read_from l 0)) out₀
  end_done q e =
      whole_out (refusals (read_from l 0)) out₀ out k.line k.wrote
      (omega (arith, ap length (k.rest ∙ ap refusals (read_end l at (sym q ∙ e))), length-drop k.line (refusals (read_from l 0))))

-- for `using` on `refuse_commands`: what its steps ask for, beside the laws of each way out
pub ruleset refusing = (wholes, loop_start)
