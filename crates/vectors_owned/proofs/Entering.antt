-- Each command by its entry point. Assumes nothing.
use Rattle.std.proofs.Common.{◌≡◌, ℕ, ◌+◌, cond, List, refl, sym, ap, ◌∙◌, subst}
use Rattle.std.specs.Prelude.{Option, Ok}
use Rattle.chunks.specs.Chunks.{next_line}
use Rattle.layout.specs.Layout.{store_of, Entered}
use Rattle.lines.specs.Lines.{line_text}
use Rattle.metadata.specs.Answers.{reported}
use Rattle.metadata.specs.Model.{decide}
use Rattle.metadata.specs.declared.Answer.{Answer}
use Rattle.metadata.specs.declared.Answer.TheVariants as A
use Rattle.metadata.specs.declared.Command.{Command}
use Rattle.metadata.specs.declared.kinds.TapeFault.TheVariants as F
use Rattle.printing.specs.Sent.{Sent}
use Rattle.reading.specs.Places.{is_whole, stop_of}
use Rattle.reading.specs.Reader.{next_at, command_at}
use Rattle.reading.specs.declared.Next.{Next}
use Rattle.reading.specs.declared.Next.TheVariants as N
use Rattle.stored_tapes.proofs.Replaying.{Replaying, replay_start, replay_next, replay_end, replay_stop}
use Rattle.stored_tapes.proofs.Sending.{sent_whole}
use Rattle.stored_tapes.specs.Replays.{LinesWritten}

module _ (l s : List ℕ) (at line : ℕ) (output now : Option (List ℕ)) (k : Replaying l s at line output now) (x : Next) (q : x ≡ next_at l at) where
  -- in a sound store a command is a step
  pub enter_next : {V E : Type 0} (v : V) (b m : ℕ) (c : Command) (a : Answer) (s' : List ℕ) (new : Option (List ℕ)) → x ≡ N.Whole b m → c ≡ command_at b l (at + 1) → Entered s c s' a →
      Sent {V = V} {E = E} now new (line_text line (reported a)) (Ok v) → Replaying l s' m (next_line line) output new
  enter_next v b m c a s' new e f h w =
      let d : Entered s (command_at b l (at + 1)) s' a = subst (λ (y : Command). Entered s y s' a) f h in
      replay_next l s at line output now k b m a s' new (sym q ∙ e)
      (d.answer ∙ ap (λ t. cond t (decide (store_of s) (command_at b l (at + 1))) (A.InvalidCommand 12)) k.sounds) (d.rows k.sounds) (d.sounds k.sounds)
      (sent_whole now new (line_text line (reported a)) _ v refl w)

  pub enter_end : x ≡ N.End → LinesWritten l s output now
  enter_end e = replay_end l s at line output now k (sym q ∙ e)

  pub enter_unknown : {V E : Type 0} (v : V) (b : ℕ) (new : Option (List ℕ)) → x ≡ N.Unknown b → Sent {V = V} {E = E} now new (line_text line (reported (A.BadTape F.Unknown b))) (Ok v) → LinesWritten l s output new
  enter_unknown v b new e w =
      let z : next_at l at ≡ N.Unknown b = sym q ∙ e in
      replay_stop l s at line output now k (A.BadTape F.Unknown b) s new refl (ap is_whole z) (ap stop_of z) (sent_whole now new (line_text line (reported (A.BadTape F.Unknown b))) _ v refl w)

  pub enter_cut : {V E : Type 0} (v : V) (b : ℕ) (new : Option (List ℕ)) → x ≡ N.Cut b → Sent {V = V} {E = E} now new (line_text line (reported (A.BadTape F.Cut b))) (Ok v) → LinesWritten l s output new
  enter_cut v b new e w =
      let z : next_at l at ≡ N.Cut b = sym q ∙ e in
      replay_stop l s at line output now k (A.BadTape F.Cut b) s new refl (ap is_whole z) (ap stop_of z) (sent_whole now new (line_text line (reported (A.BadTape F.Cut b))) _ v refl w)

pub ruleset entering = (replay_start, enter_next)
