-- A chunk of the tape, command by command. Assumes nothing.
use Rattle.std.proofs.Common.{◌≡◌, ℕ, ◌+◌, ◌-◌, ◌<◌, ◌≤◌, true, false, List, [], ◌∷◌, ◌++◌, length, sym, refl, ap, ◌∙◌, subst, ap₂, append_assoc, append-nil, arith}
use Rattle.laws.proofs.ListLaws.{never}
use Rattle.layout.specs.Layout.{store_of, sound, Stepped}
use Rattle.lines.specs.Lines.{line_text}
use Rattle.metadata.specs.Answers.{reported}
use Rattle.metadata.specs.declared.Command.{Command}
use Rattle.metadata.specs.Model.{StoreRows, step}
use Rattle.metadata.specs.Run.{run, answers}
use Rattle.metadata.specs.declared.Answer.{Answer}
use Rattle.metadata.specs.declared.Answer.TheVariants as A
use Rattle.metadata.specs.declared.kinds.TapeFault.TheVariants as F
use Rattle.metadata.specs.declared.Reported.{Reported}
use Rattle.reading.specs.declared.Next.{Next}
use Rattle.reading.specs.declared.Next.TheVariants as N
use Rattle.reading.specs.Places.{Stands, none, is_whole, is_unknown, stop_of}
use Rattle.reading.specs.Reader.{next_at, command_at}
use Rattle.reading.proofs.Places.{stands_last}
use Rattle.reading.proofs.Reading.{whole, wholes, next_end}
use Rattle.chunks.specs.declared.Chunk.{Chunk}
use Rattle.chunks.specs.declared.Pause.{Pause}
use Rattle.chunks.specs.declared.Pause.TheVariants as P
use Rattle.chunks.specs.Chunks.{line_room, next_line, lines_text, line_behind, ChunkRun}

-- ---- lines of two lists of answers, one behind the other

pub lines_both : (n : ℕ) (a b : List Answer) → lines_text n (a ++ b) ≡ lines_text n a ++ lines_text (line_behind n a) b
unfolding lines_text line_behind
lines_both n [] b = refl
lines_both n (x ∷ a) b =
    ap (λ (t : List ℕ). line_text n (reported x) ++ t) (lines_both (next_line n) a b)
    ∙ sym (append_assoc (line_text n (reported x)) (lines_text (next_line n) a) (lines_text (line_behind (next_line n) a) b))

pub behind_both : (n : ℕ) (a b : List Answer) → line_behind n (a ++ b) ≡ line_behind (line_behind n a) b
unfolding line_behind
behind_both n [] b = refl
behind_both n (x ∷ a) b = behind_both (next_line n) a b

pub one_line : (n : ℕ) (a : Answer) → lines_text n (a ∷ []) ≡ line_text n (reported a)
unfolding lines_text
one_line n a = append-nil (line_text n (reported a))

one_behind : (n : ℕ) (a : Answer) → line_behind n (a ∷ []) ≡ next_line n
unfolding line_behind
one_behind n a = refl

-- ---- commands of two lists, one behind the other

pub run_both : (s : StoreRows) (cs ds : List Command) → run s (cs ++ ds) ≡ run (run s cs) ds
run_both s [] ds = refl
run_both s (x ∷ cs) ds = run_both (step s x).rows cs ds

pub answers_both : (s : StoreRows) (cs ds : List Command) → answers s (cs ++ ds) ≡ answers s cs ++ answers (run s cs) ds
answers_both s [] ds = refl
answers_both s (x ∷ cs) ds = ap (λ (t : List Answer). (step s x).answer ∷ t) (answers_both (step s x).rows cs ds)

-- ---- the loop: what was run so far, and its lines

pub record Running (l : List ℕ) (s₀ : List ℕ) (first : ℕ) (old : List ℕ) (s : List ℕ) (at line : ℕ) (out : List ℕ) : Type 0 where
  pub commands : List Command
  pub stand : Stands l 0 commands at
  pub ran : store_of s ≡ run (store_of s₀) commands
  pub text : out ≡ old ++ lines_text first (answers (store_of s₀) commands)
  pub numbered : line ≡ line_behind first (answers (store_of s₀) commands)
  pub sounds : sound s ≡ true
  pub inside : at ≤ length l

pub run_start : (l : List ℕ) (s₀ : List ℕ) (first : ℕ) (old : List ℕ) → sound s₀ ≡ true → Running l s₀ first old s₀ 0 first old
unfolding lines_text line_behind
run_start l s₀ first old e =
    record { commands = []; stand = none; ran = refl; text = sym (append-nil old); numbered = refl; sounds = e; inside = omega arith }

module _ (l : List ℕ) (s₀ : List ℕ) (first : ℕ) (old : List ℕ) (s : List ℕ) (at line : ℕ) (out : List ℕ) (k : Running l s₀ first old s at line out) where
  -- Of the loop as it goes; `chunk_run_sound` of the crate streaming says the same of what a run left.
  pub run_sound : sound s ≡ true
  run_sound = k.sounds

  -- the line of one more answer
  line_more : (a : Answer) (r : Reported) (new : List ℕ) → r ≡ reported a → new ≡ out ++ line_text line r → new ≡ old ++ lines_text first (answers (store_of s₀) k.commands ++ a ∷ [])
  line_more a r new e p =
      p
      ∙ ap₂ (λ (o t : List ℕ). o ++ t) k.text (ap₂ line_text k.numbered e ∙ sym (one_line (line_behind first (answers (store_of s₀) k.commands)) a))
      ∙ append_assoc old (lines_text first (answers (store_of s₀) k.commands)) (lines_text (line_behind first (answers (store_of s₀) k.commands)) (a ∷ []))
      ∙ ap (λ (t : List ℕ). old ++ t) (sym (lines_both first (answers (store_of s₀) k.commands) (a ∷ [])))

  pub run_next : (x : Next) (b m : ℕ) → x ≡ next_at l at → x ≡ N.Whole b m → (c : Command) (a : Answer) (s' : List ℕ) (r : Reported) (new : List ℕ) →
      c ≡ command_at b l (at + 1) → Stepped s c s' a → r ≡ reported a → new ≡ out ++ line_text line r →
      Running l s₀ first old s' m (next_line line) new
  run_next x b m q e c a s' r new f t p g =
      let here : Command = command_at b l (at + 1) in
      let d : Stepped s here s' a = subst (λ (y : Command). Stepped s y s' a) f t in
      let told : answers (store_of s₀) (k.commands ++ here ∷ []) ≡ answers (store_of s₀) k.commands ++ a ∷ [] =
      answers_both (store_of s₀) k.commands (here ∷ []) ∙ ap (λ (y : Answer). answers (store_of s₀) k.commands ++ y ∷ []) (ap (λ (y : StoreRows). (step y here).answer) (sym k.ran) ∙ sym d.answer) in
      record {
        commands = k.commands ++ here ∷ [];
        stand = stands_last k.stand (sym q ∙ e);
        ran = d.rows ∙ ap (λ (y : StoreRows). (step y here).rows) k.ran ∙ sym (run_both (store_of s₀) k.commands (here ∷ []));
        text = line_more a r new p g ∙ ap (λ (y : List Answer). old ++ lines_text first y) (sym told);
        numbered =
            ap next_line k.numbered ∙ sym (one_behind (line_behind first (answers (store_of s₀) k.commands)) a) ∙ sym (behind_both first (answers (store_of s₀) k.commands) (a ∷ []))
            ∙ ap (line_behind first) (sym told);
        sounds = d.sounds;
        inside = (whole l at b m (sym q ∙ e)).fits;
      }

-- ---- the ways out: s is the store, c what the code gives

module _ (l : List ℕ) (s₀ : List ℕ) (first : ℕ) (old : List ℕ) (s : List ℕ) (at line room : ℕ) (out : List ℕ)
    (k : Running l s₀ first old s at line out) (c : Chunk) where
  abbrev Left : Chunk → List ℕ → Type 0
  Left x new = ChunkRun room l s₀ first old x s new

  abbrev stand : Pause → Chunk
  stand p = record { at = at; line = line; pause = p }

  -- no more was written
  silent : out ≡ old ++ lines_text first (answers (store_of s₀) k.commands ++ [])
  silent = k.text ∙ ap (λ (y : List Answer). old ++ lines_text first y) (sym (append-nil (answers (store_of s₀) k.commands)))

  -- the output is full
  pub run_full : c ≡ stand P.Full → room - length out < line_room → length out ≤ room → Left c out
  run_full f j h =
      subst (λ (x : Chunk). Left x out) (sym f)
      (record {
        commands = k.commands;
        stand = k.stand;
        ran = k.ran;
        text = silent;
        line = k.numbered;
        sounds = k.sounds;
        inside = k.inside;
        room_left = λ e. omega arith;
        all = λ e. absurd (never true refl e);
        stops = λ e. absurd (never true refl e);
      })

  -- no whole command is left, and no byte that is none
  none_left : c ≡ stand P.Short → is_whole (next_at l at) ≡ false → is_unknown (next_at l at) ≡ false → Left c out
  none_left f q u =
      subst (λ (x : Chunk). Left x out) (sym f)
      (record {
        commands = k.commands;
        stand = k.stand;
        ran = k.ran;
        text = silent;
        line = k.numbered;
        sounds = k.sounds;
        inside = k.inside;
        room_left = λ e. absurd (never false e refl);
        all = λ e. q;
        stops = λ e. sym u;
      })

  pub run_over : c ≡ stand P.Short → length l ≤ at → Left c out
  run_over f j = let z = next_end l at j in none_left f (rw (← z)) (rw (← z))

  module _ (x : Next) (q : x ≡ next_at l at) where
    pub run_cut : c ≡ stand P.Short → (b : ℕ) → x ≡ N.Cut b → Left c out
    run_cut f b e = let z = sym q ∙ e in none_left f (rw z) (rw z)

    pub run_end : c ≡ stand P.Short → x ≡ N.End → Left c out
    run_end f e = let z = sym q ∙ e in none_left f (rw z) (rw z)

    pub run_unknown : (b : ℕ) (r : Reported) (new : List ℕ) → c ≡ stand P.Stopped → x ≡ N.Unknown b → r ≡ reported (A.BadTape F.Unknown b) → new ≡ out ++ line_text line r → Left c new
    run_unknown b r new f e p a =
        let z = sym q ∙ e in
        subst (λ (x : Chunk). Left x new) (sym f)
        (record {
          commands = k.commands;
          stand = k.stand;
          ran = k.ran;
          text =
              line_more l s₀ first old s at line out k (A.BadTape F.Unknown b) r new p a
              ∙ ap (λ (y : Next). old ++ lines_text first (answers (store_of s₀) k.commands ++ stop_of y)) (sym z);
          line = k.numbered;
          sounds = k.sounds;
          inside = k.inside;
          room_left = λ e. absurd (never false e refl);
          all = λ e. rw z;
          stops = λ e. rw z;
        })

-- for `using` on `run_chunk`: what its steps ask for, beside the laws of each way out
pub ruleset running = (wholes, run_start, run_sound, run_full)
