-- What stands behind the last command when the input ends, and the line that says so. Assumes nothing.
use Rattle.std.proofs.Common.{◌≡◌, ℕ, true, false, List, [], length, refl, sym, ap, ◌∙◌, subst, true≢false, arith}
use Rattle.std.specs.Prelude.{Option, Result, Ok, Err, IsErr, OnOk}
use Rattle.std.proofs.KnownBytes.{Appends-nil}
use Rattle.chunks.proofs.ChunkRuns.{one_line}
use Rattle.chunks.specs.Chunks.{lines_text}
use Rattle.streaming.proofs.Advanced.{lines_none}
use Rattle.streaming.specs.Stages.{end_of}
use Rattle.streaming.specs.declared.End.{End}
use Rattle.streaming.specs.declared.End.TheVariants as H
use Rattle.laws.proofs.ListLaws.{never}
use Rattle.lines.specs.Lines.{line_text}
use Rattle.metadata.specs.Answers.{reported}
use Rattle.metadata.specs.declared.Answer.TheVariants as A
use Rattle.metadata.specs.declared.kinds.TapeFault.TheVariants as F
use Rattle.printing.specs.Sent.{Sent}
use Rattle.reading.specs.Places.{stop_of, is_unknown}
use Rattle.reading.specs.Reader.{next_at}
use Rattle.reading.specs.declared.Next.{Next}
use Rattle.reading.specs.declared.Next.TheVariants as N

module _ (l : List ℕ) (line : ℕ) (x : Next) (q : x ≡ next_at l 0) (old new : Option (List ℕ)) where
  cut_text : (b : ℕ) → x ≡ N.Cut b → line_text line (reported (A.BadTape F.Cut b)) ≡ lines_text line (stop_of (next_at l 0))
  cut_text b e = sym (one_line line (A.BadTape F.Cut b)) ∙ ap (λ (y : Next). lines_text line (stop_of y)) (sym e ∙ q)

  pub cut_sent : {V E : Type 0} (v : V) (b : ℕ) → x ≡ N.Cut b → (how : End) → Sent {V = V} {E = E} old new (line_text line (reported (A.BadTape F.Cut b))) (Ok v) →
      Sent {E = E} old new (lines_text line (stop_of (next_at l 0))) (Ok how)
  cut_sent {V} {E} v b e how s =
      subst (λ (t : List ℕ). Sent {E = E} old new t (Ok how)) (cut_text b e) (record { count = s.count; within = s.within; wrote = s.wrote; all = s.all })

  pub cut_not_sent : {V E : Type 0} (b : ℕ) → x ≡ N.Cut b → (r : Result V E) (r' : Result End E) → Sent old new (line_text line (reported (A.BadTape F.Cut b))) r → IsErr r' →
      Sent old new (lines_text line (stop_of (next_at l 0))) r'
  cut_not_sent {V} {E} b e r r' s f =
      subst (λ (t : List ℕ). Sent old new t r') (cut_text b e) (record { count = s.count; within = s.within; wrote = s.wrote; all = none r' f })
    where
      none : (y : Result End E) → IsErr y → OnOk y (s.count ≡ length (line_text line (reported (A.BadTape F.Cut b))))
      none (Ok y) g = absurd (true≢false (sym g))
      none (Err y) g = tt

  pub cut_ended : (b : ℕ) → x ≡ N.Cut b → H.Stopped ≡ end_of (next_at l 0)
  cut_ended b e = ap end_of (sym e ∙ q)

  module _ (u : is_unknown (next_at l 0) ≡ false) (n : (b : ℕ) → x ≡ N.Cut b → ⊥) where
    nothing : (stop_of (next_at l 0) ≡ []) × (H.Whole ≡ end_of (next_at l 0))
    nothing = go (next_at l 0) u (λ b e. n b (q ∙ e))
      where
        go : (y : Next) → is_unknown y ≡ false → ((b : ℕ) → y ≡ N.Cut b → ⊥) → (stop_of y ≡ []) × (H.Whole ≡ end_of y)
        go N.End v m = (refl, refl)
        go (N.Unknown b) v m = absurd (never true refl v)
        go (N.Cut b) v m = absurd (m b refl)
        go (N.Whole b i) v m = (refl, refl)

    pub nothing_sent : {E : Type 0} → Sent {E = E} old old (lines_text line (stop_of (next_at l 0))) (Ok H.Whole)
    nothing_sent {E} =
        subst (λ (t : List ℕ). Sent {E = E} old old t (Ok H.Whole)) (sym (ap (lines_text line) nothing.0 ∙ lines_none line))
        (record { count = 0; within = omega arith; wrote = Appends-nil old; all = refl })

    pub whole_ended : H.Whole ≡ end_of (next_at l 0)
    whole_ended = nothing.1

pub ruleset finishing = (cut_sent, cut_not_sent, cut_ended, nothing_sent, whole_ended)
