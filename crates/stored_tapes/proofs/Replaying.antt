-- A tape that is replayed: its commands one after the other, and their lines. Assumes nothing.
use Rattle.std.proofs.Common.{◌≡◌, ℕ, ◌+◌, true, false, List, [], ◌∷◌, ◌++◌, refl, sym, ap, ◌∙◌, subst}
use Rattle.std.specs.Prelude.{Option, Result, Ok, Err, IfOk}
use Rattle.std.specs.Io.KnownBytes.{Appends}
use Rattle.std.proofs.KnownBytes.{Appends-nil, Appends-trans}
use Rattle.chunks.proofs.ChunkRuns.{lines_both, behind_both, one_line, run_both, answers_both}
use Rattle.chunks.specs.Chunks.{next_line, lines_text, line_behind}
use Rattle.dump.specs.Dump.{dump_text}
use Rattle.layout.specs.Layout.{store_of, sound, Opened}
use Rattle.lines.specs.Lines.{line_text}
use Rattle.metadata.specs.Answers.{is_applied, reported}
use Rattle.metadata.specs.Model.{StoreRows, step}
use Rattle.metadata.specs.Run.{run, answers}
use Rattle.metadata.specs.declared.Answer.{Answer}
use Rattle.metadata.specs.declared.Command.{Command}
use Rattle.printing.specs.Sent.{Sent}
use Rattle.reading.proofs.Places.{stands_last, stands_all}
use Rattle.reading.specs.Places.{Stands, none, stop_of, is_whole}
use Rattle.reading.specs.Reader.{Reading, next_at, command_at, read_from, tape_answers, body_at, open_tape}
use Rattle.reading.specs.declared.Next.{Next}
use Rattle.reading.specs.declared.Next.TheVariants as N
use Rattle.stored_tapes.proofs.Sending.{sent_whole}
use Rattle.stored_tapes.specs.Replays.{replay_text, AtOpening, LinesWritten}
use Rattle.streaming.specs.Whole.{tape_text}
use Rattle.tape.specs.Tape.{outcome, final_store}

-- ---- the commands so far end at a place, and their lines were written

pub record Replaying (l s : List ℕ) (at line : ℕ) (output now : Option (List ℕ)) : Type 0 where
  pub accepted : is_applied (open_tape l).answer ≡ true
  pub commands : List Command
  pub stand : Stands l (body_at l) commands at
  pub ran : store_of s ≡ run (open_tape l).rows commands
  pub sounds : sound s ≡ true
  pub numbered : line ≡ line_behind 1 (answers (open_tape l).rows commands)
  pub wrote : Appends output now (lines_text 1 (answers (open_tape l).rows commands))

no_lines : (n : ℕ) → lines_text n [] ≡ []
unfolding lines_text
no_lines n = refl

none_behind : (n : ℕ) → line_behind n [] ≡ n
unfolding line_behind
none_behind n = refl

one_behind : (n : ℕ) (a : Answer) → line_behind n (a ∷ []) ≡ next_line n
unfolding line_behind
one_behind n a = refl

pub replay_start : (l s : List ℕ) (at : ℕ) (output : Option (List ℕ)) → AtOpening l s → at ≡ body_at l → Replaying l s at 1 output output
replay_start l s at output b e =
    record {
      accepted = b.accepted;
      commands = [];
      stand = subst (λ (i : ℕ). Stands l (body_at l) [] i) (sym e) none;
      ran = b.rows;
      sounds = b.sounds;
      numbered = sym (none_behind 1);
      wrote = subst (Appends output output) (sym (no_lines 1)) (Appends-nil output);
    }

module _ (l s : List ℕ) (at line : ℕ) (output now : Option (List ℕ)) (k : Replaying l s at line output now) where
  -- and the lines of more answers
  text_more : (new : Option (List ℕ)) (more : List Answer) → Appends now new (lines_text line more) → Appends output new (lines_text 1 (answers (open_tape l).rows k.commands ++ more))
  text_more new more w =
      subst (Appends output new)
      (ap (λ (n : ℕ). lines_text 1 (answers (open_tape l).rows k.commands) ++ lines_text n more) k.numbered ∙ sym (lines_both 1 (answers (open_tape l).rows k.commands) more))
      (Appends-trans output now new (lines_text 1 (answers (open_tape l).rows k.commands)) (lines_text line more) k.wrote w)

  pub replay_sound : sound s ≡ true
  replay_sound = k.sounds

  -- a whole command was run, and its line written
  pub replay_next : (b m : ℕ) (a : Answer) (s' : List ℕ) (new : Option (List ℕ)) → next_at l at ≡ N.Whole b m → a ≡ (step (store_of s) (command_at b l (at + 1))).answer →
      store_of s' ≡ (step (store_of s) (command_at b l (at + 1))).rows → sound s' ≡ true → Appends now new (line_text line (reported a)) → Replaying l s' m (next_line line) output new
  replay_next b m a s' new e d r i w =
      let c : Command = command_at b l (at + 1) in
      let told : answers (open_tape l).rows (k.commands ++ c ∷ []) ≡ answers (open_tape l).rows k.commands ++ a ∷ [] =
      answers_both (open_tape l).rows k.commands (c ∷ []) ∙ ap (λ (y : Answer). answers (open_tape l).rows k.commands ++ y ∷ []) (ap (λ (y : StoreRows). (step y c).answer) (sym k.ran) ∙ sym d) in
      record {
        accepted = k.accepted;
        commands = k.commands ++ c ∷ [];
        stand = stands_last k.stand e;
        ran = r ∙ ap (λ (y : StoreRows). (step y c).rows) k.ran ∙ sym (run_both (open_tape l).rows k.commands (c ∷ []));
        sounds = i;
        numbered =
            ap next_line k.numbered ∙ sym (one_behind (line_behind 1 (answers (open_tape l).rows k.commands)) a) ∙ sym (behind_both 1 (answers (open_tape l).rows k.commands) (a ∷ []))
            ∙ ap (line_behind 1) (sym told);
        wrote = subst (λ (y : List Answer). Appends output new (lines_text 1 y)) (sym told) (text_more new (a ∷ []) (subst (Appends now new) (sym (one_line line a)) w));
      }

  -- no whole command is left, and the line of what stands there, if it has one, was written
  pub replay_last : (s' : List ℕ) (new : Option (List ℕ)) → store_of s' ≡ store_of s → is_whole (next_at l at) ≡ false → Appends now new (lines_text line (stop_of (next_at l at))) → LinesWritten l s' output new
  unfolding outcome final_store
  replay_last s' new q n w =
      let all : read_from l (body_at l) ≡ record { commands = k.commands; stop = stop_of (next_at l at) } = stands_all k.stand n in
      record {
        rows = rw k.accepted (q ∙ k.ran ∙ ap (λ (r : Reading). run (open_tape l).rows r.commands) (sym all));
        wrote = rw k.accepted (subst (λ (r : Reading). Appends output new (lines_text 1 (tape_answers (open_tape l).rows r))) (sym all) (text_more new (stop_of (next_at l at)) w));
      }

  -- nothing stands there
  pub replay_end : next_at l at ≡ N.End → LinesWritten l s output now
  replay_end e =
      replay_last s now refl (ap is_whole e) (subst (λ (y : Next). Appends now now (lines_text line (stop_of y))) (sym e) (subst (Appends now now) (sym (no_lines line)) (Appends-nil now)))

  -- what stands there is no command, or a part of one
  pub replay_stop : (a : Answer) (s' : List ℕ) (new : Option (List ℕ)) → store_of s' ≡ store_of s → is_whole (next_at l at) ≡ false → stop_of (next_at l at) ≡ a ∷ [] →
      Appends now new (line_text line (reported a)) → LinesWritten l s' output new
  replay_stop a s' new q n f w = replay_last s' new q n (subst (Appends now new) (sym (one_line line a) ∙ ap (lines_text line) (sym f)) w)

-- ---- a refused opening

pub replay_refused : {V E : Type 0} (v : V) (l s : List ℕ) (a : Answer) (output now : Option (List ℕ)) → Opened (open_tape l) a s → is_applied a ≡ false →
    Sent {V = V} {E = E} output now (line_text 0 (reported a)) (Ok v) → LinesWritten l s output now
unfolding outcome final_store
replay_refused v l s a output now k e w =
    let z : is_applied (open_tape l).answer ≡ false = ap is_applied (sym k.answer) ∙ e in
    record {
      rows = rw z k.rows;
      wrote = rw z (subst (Appends output now) (ap (λ (y : Answer). line_text 0 (reported y)) k.answer ∙ sym (one_line 0 (open_tape l).answer)) (sent_whole output now (line_text 0 (reported a)) _ v refl w));
    }

-- ---- and the dump behind the lines

pub replay_written : {V E : Type 0} (v : V) (l s : List ℕ) (output now new : Option (List ℕ)) → LinesWritten l s output now → Sent {V = V} {E = E} now new (dump_text (store_of s)) (Ok v) →
    Appends output new (replay_text l)
unfolding replay_text
replay_written v l s output now new t d =
    Appends-trans output now new (tape_text l) (dump_text (final_store l)) t.wrote
    (subst (λ (r : StoreRows). Appends now new (dump_text r)) t.rows (sent_whole now new (dump_text (store_of s)) _ v refl d))

-- the same of any result
pub replay_dumped : {V E : Type 0} (result : Result V E) (l s : List ℕ) (output now new : Option (List ℕ)) → LinesWritten l s output now → Sent now new (dump_text (store_of s)) result →
    IfOk result (λ _. Appends output new (replay_text l))
replay_dumped (Err e) l s output now new t d = tt
replay_dumped (Ok v) l s output now new t d = replay_written v l s output now new t d
