-- One command a call. Assumes nothing.
use Rattle.std.proofs.Common.{◌≡◌, ℕ, ◌+◌, ◌-◌, ◌*◌, Bool, true, false, cond, List, [], ◌∷◌, ◌++◌, length, take, drop, refl, sym, ap, ◌∙◌, subst, append-nil, arith}
use Rattle.std.specs.Prelude.{Option, Result, Ok, Err, IfOk}
use Rattle.std.specs.Io.KnownBytes.{Appends}
use Rattle.std.proofs.lemmas.List.{drop_all}
use Rattle.layout.specs.Layout.{store_of, sound}
use Rattle.metadata.specs.Answers.{reported}
use Rattle.metadata.specs.Run.{run}
use Rattle.metadata.specs.Model.{step}
use Rattle.metadata.specs.declared.Answer.{Answer}
use Rattle.metadata.specs.declared.Command.{Command}
use Rattle.reading.specs.Places.{is_whole, stop_of}
use Rattle.reading.specs.Reader.{Reading, next_at, command_at, read_from, tape_answers}
use Rattle.reading.specs.declared.Next.{Next}
use Rattle.reading.specs.declared.Next.TheVariants as N
use Rattle.chunks.specs.Chunks.{next_line}
use Rattle.answer_numbers.specs.Numbers.{numbers_of, numbers}
use Rattle.printing.specs.Sent.{Sent}
use Rattle.store.specs.Slices.{call_answers, answered_into, fits, opening_length, ApplyOf}
use Rattle.store.specs.declared.Fault.{Fault}
use Rattle.store.specs.declared.Fault.TheVariants as F
use Rattle.stored_tapes.proofs.Answering.{answer_as}
use Rattle.stored_tapes.proofs.Sending.{sent_whole}
use Rattle.stored_tapes.specs.AnswerText.{answer_text}
use Rattle.stored_tapes.proofs.Replaying.{Replaying, replay_start, replay_next, replay_end, replay_stop}
use Rattle.stored_tapes.specs.Replays.{AtOpening, LinesWritten}
use Rattle.vectors_apply.proofs.Openings.{opening_whole}
use Rattle.vectors_apply.proofs.Slices.{one_read, rest_read, whole_starts, whole_ends, unknown_starts, cut_starts}
use Rattle.vectors_apply.specs.OneAnswer.{OneAnswer}

pub apply_start : (l s : List ℕ) (at : ℕ) (output : Option (List ℕ)) → AtOpening l s → at ≡ opening_length l → Replaying l s at 1 output output
apply_start l s at output b e = replay_start l s at output b (e ∙ opening_whole l b.accepted)

-- on a sound block the answers are the definition's
answered : (b l : List ℕ) → sound b ≡ true → call_answers b l ≡ tape_answers (store_of b) (read_from l 0)
unfolding call_answers
answered b l e = rw e refl

-- ---- a call that had one answer

one_in : (a : Answer) (out : List ℕ) → length out ≡ 4 → answered_into (a ∷ []) out ≡ numbers_of (reported a)
unfolding numbers
one_in a out h = ap (λ (x : List ℕ). (numbers_of (reported a) ++ []) ++ x) (drop_all (4 * 1) out (omega (arith, h))) ∙ append-nil (numbers_of (reported a) ++ []) ∙ append-nil (numbers_of (reported a))

counted : (m n : ℕ) → ◌≡◌ {A = Result ℕ Fault} (Ok m) (Ok n) → m ≡ n
counted m n e = cc

not_short : (n : ℕ) → ◌≡◌ {A = Result ℕ Fault} (Ok n) (Err F.Short) → ⊥
not_short n e = let z : ◌≡◌ {A = ℕ} 0 1 = cc in omega arith

pub one_answer : {V E : Type 0} (result : Result V E) (b l out b' out' : List ℕ) (r : Result ℕ Fault) (n line : ℕ) (output now : Option (List ℕ)) → ApplyOf b l out r b' out' → r ≡ Ok n → n ≡ 1 → length out ≡ 4 →
    Sent output now (answer_text line out') result → IfOk result (λ _. OneAnswer b l line b' output now)
one_answer (Err e) b l out b' out' r n line output now k q o h w = tt
one_answer (Ok v) b l out b' out' r n line output now k q o h w = go (fits (call_answers b l) out) refl (call_answers b l) refl
  where
    go : (t : Bool) → fits (call_answers b l) out ≡ t → (given : List Answer) → call_answers b l ≡ given → OneAnswer b l line b' output now
    go false f given g = absurd (not_short n (sym q ∙ k.result ∙ ap (λ t. cond t (Ok (length (call_answers b l))) (Err F.Short)) f))
    go true f [] g = absurd (omega (arith, o, counted n _ (sym q ∙ k.result ∙ ap (λ t. cond t (Ok (length (call_answers b l))) (Err F.Short)) f), ap length g))
    go true f (a ∷ []) g =
        let given : out' ≡ numbers_of (reported a) =
        k.answered ∙ ap (λ t. cond t (answered_into (call_answers b l) out) out) f ∙ ap (λ (x : List Answer). answered_into x out) g ∙ one_in a out h in
        record {
          answer = a;
          given = g;
          wrote = subst (Appends output now) (ap (answer_text line) given ∙ answer_as line a) (sent_whole output now (answer_text line out') _ v refl w);
          rows = λ e. k.rows e ∙ ap (λ t. run (store_of b) (cond t (read_from l 0).commands [])) f;
          sounds = k.sounds;
        }
    go true f (a ∷ y ∷ rest) g = absurd (omega (arith, o, counted n _ (sym q ∙ k.result ∙ ap (λ t. cond t (Ok (length (call_answers b l))) (Err F.Short)) f), ap length g))

first_of : (x y : Answer) (t : List Answer) → x ∷ [] ≡ y ∷ t → x ≡ y
first_of x y t e = cc

module _ (l s : List ℕ) (at line : ℕ) (output now : Option (List ℕ)) (k : Replaying l s at line output now) (x : Next) (q : x ≡ next_at l at) where
  pub apply_next : (b m : ℕ) (part s' : List ℕ) (new : Option (List ℕ)) → x ≡ N.Whole b m → part ≡ take (m - at) (drop at l) → OneAnswer s part line s' now new → Replaying l s' m (next_line line) output new
  apply_next b m part s' new e f d =
      let z : next_at l at ≡ N.Whole b m = sym q ∙ e in
      let c : Command = command_at b l (at + 1) in
      let r : read_from part 0 ≡ record { commands = c ∷ []; stop = [] } = ap (λ (y : List ℕ). read_from y 0) f ∙ one_read l at b m z in
      let given : d.answer ∷ [] ≡ tape_answers (store_of s) (record { commands = c ∷ []; stop = [] }) = sym d.given ∙ answered s part k.sounds ∙ ap (tape_answers (store_of s)) r in
      replay_next l s at line output now k b m d.answer s' new z
      (first_of d.answer (step (store_of s) c).answer [] given)
      (d.rows k.sounds ∙ ap (λ (y : Reading). run (store_of s) y.commands) r)
      (d.sounds k.sounds) d.wrote

  pub apply_end : x ≡ N.End → LinesWritten l s output now
  apply_end e = replay_end l s at line output now k (sym q ∙ e)

  last : {V E : Type 0} (result : Result V E) (part s' : List ℕ) (new : Option (List ℕ)) → is_whole (next_at l at) ≡ false → part ≡ drop at l → IfOk result (λ _. OneAnswer s part line s' now new) → IfOk result (λ _. LinesWritten l s' output new)
  last (Err e) part s' new n f d = tt
  last (Ok v) part s' new n f d =
      let r : read_from part 0 ≡ record { commands = []; stop = stop_of (next_at l at) } = ap (λ (y : List ℕ). read_from y 0) f ∙ rest_read l at n in
      replay_stop l s at line output now k d.answer s' new
      (d.rows k.sounds ∙ ap (λ (y : Reading). run (store_of s) y.commands) r) n
      (sym (sym d.given ∙ answered s part k.sounds ∙ ap (tape_answers (store_of s)) r)) d.wrote

  pub apply_unknown : {V E : Type 0} (result : Result V E) (b : ℕ) (part s' : List ℕ) (new : Option (List ℕ)) → x ≡ N.Unknown b → part ≡ drop at l →
      IfOk result (λ _. OneAnswer s part line s' now new) → IfOk result (λ _. LinesWritten l s' output new)
  apply_unknown result b part s' new e f d = last result part s' new (ap is_whole (sym q ∙ e)) f d

  pub apply_cut : {V E : Type 0} (result : Result V E) (b : ℕ) (part s' : List ℕ) (new : Option (List ℕ)) → x ≡ N.Cut b → part ≡ drop at l →
      IfOk result (λ _. OneAnswer s part line s' now new) → IfOk result (λ _. LinesWritten l s' output new)
  apply_cut result b part s' new e f d = last result part s' new (ap is_whole (sym q ∙ e)) f d

pub ruleset applying = (apply_start, whole_starts, whole_ends, unknown_starts, cut_starts)
