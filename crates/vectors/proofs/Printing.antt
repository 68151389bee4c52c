-- The lines of answers by their numbers. Assumes nothing.
use Rattle.std.proofs.Common.{◌≡◌, ℕ, zero, suc, ◌-◌, ◌*◌, ◌<◌, ◌≤◌, Bool, true, false, cond, List, [], ◌∷◌, ◌++◌, length, take, drop, refl, sym, ap, ap₂, ◌∙◌, subst, append_assoc, append-nil, arith, length-drop, leb, le-leb}
use Rattle.std.specs.Prelude.{Option, Ok}
use Rattle.std.specs.Io.KnownBytes.{Appends}
use Rattle.std.proofs.KnownBytes.{Appends-nil, Appends-trans}
use lib.Seq.{take_at, drop_at}
use Rattle.std.specs.Int.{from_bool}
use Rattle.std.proofs.lemmas.Bool.{ltb-false}
use Rattle.answer_numbers.proofs.Numbers.{four_numbers}
use Rattle.answer_numbers.specs.Numbers.{numbers_of, numbers}
use Rattle.chunks.specs.Chunks.{next_line, lines_text}
use Rattle.metadata.specs.Answers.{reported}
use Rattle.metadata.specs.declared.Answer.{Answer}
use Rattle.printing.specs.Sent.{Sent}
use Rattle.stored_tapes.proofs.Answering.{answer_as}
use Rattle.stored_tapes.proofs.Sending.{sent_whole}
use Rattle.stored_tapes.specs.AnswerText.{answer_text}
use Rattle.stored_tapes.specs.Replays.{LinesWritten}
use Rattle.tape.specs.Tape.{outcome, ran_out, RunOf}
use Rattle.tape.specs.declared.Ran.{Ran}
use Rattle.vectors.specs.Answers.{answers_text}

-- ---- the loop: `done` was written, and the lines of the numbers that are left are still to be

pub record Printing (l : List ℕ) (count first : ℕ) (rest : List ℕ) (left line : ℕ) (output now : Option (List ℕ)) : Type 0 where
  pub done : List ℕ
  pub wrote : Appends output now done
  pub text : answers_text first count l ≡ done ++ answers_text line left rest
  pub room : 4 * left ≤ length rest

pub print_start : (l : List ℕ) (count first : ℕ) (output : Option (List ℕ)) → 4 * count ≤ length l → Printing l count first l count first output output
print_start l count first output h = record { done = []; wrote = Appends-nil output; text = refl; room = h }

answers_next : (line left : ℕ) (rest : List ℕ) → 0 < left → answers_text line left rest ≡ answer_text line (take 4 rest) ++ answers_text (next_line line) (left - 1) (drop 4 rest)
unfolding answers_text
answers_next line zero rest h = absurd (omega arith)
answers_next line (suc n) rest h = let z : suc n - 1 ≡ n = omega arith in rw z refl

answers_end : (line left : ℕ) (rest : List ℕ) → left ≤ 0 → answers_text line left rest ≡ []
unfolding answers_text
answers_end line zero rest h = refl
answers_end line (suc n) rest h = absurd (omega arith)

module _ (l : List ℕ) (count first : ℕ) (rest : List ℕ) (left line : ℕ) (output now : Option (List ℕ)) (k : Printing l count first rest left line output now) where
  pub print_room : 0 < left → 4 ≤ length rest
  print_room h = omega (arith, k.room, h)

  pub print_next : {V E : Type 0} (v : V) (answer behind : List ℕ) (new : Option (List ℕ)) → 0 < left → answer ≡ take 4 rest → behind ≡ drop 4 rest →
      Sent {V = V} {E = E} now new (answer_text line answer) (Ok v) → Printing l count first behind (left - 1) (next_line line) output new
  print_next v answer behind new h p q s =
      record {
        done = k.done ++ answer_text line answer;
        wrote = Appends-trans output now new k.done (answer_text line answer) k.wrote (sent_whole now new (answer_text line answer) _ v refl s);
        text =
            k.text ∙ ap (λ (x : List ℕ). k.done ++ x) (answers_next line left rest h ∙ ap₂ (λ (x y : List ℕ). answer_text line x ++ answers_text (next_line line) (left - 1) y) (sym p) (sym q))
            ∙ sym (append_assoc k.done (answer_text line answer) (answers_text (next_line line) (left - 1) behind));
        room = omega (arith, k.room, ap length q, length-drop 4 rest);
      }

  pub print_end : left ≤ 0 → Appends output now (answers_text first count l)
  print_end h = subst (Appends output now) (sym (k.text ∙ ap (λ (x : List ℕ). k.done ++ x) (answers_end line left rest h) ∙ append-nil k.done)) k.wrote

-- ---- the numbers of a run

-- the first answers' numbers stand in front
numbers_text : (line : ℕ) (answers : List Answer) (l : List ℕ) → answers_text line (length answers) (numbers answers ++ l) ≡ lines_text line answers
unfolding answers_text lines_text numbers
numbers_text line [] l = refl
numbers_text line (a ∷ answers) l =
    let z : (numbers_of (reported a) ++ numbers answers) ++ l ≡ numbers_of (reported a) ++ (numbers answers ++ l) = append_assoc (numbers_of (reported a)) (numbers answers) l in
    ap₂ (λ (x y : List ℕ). answer_text line x ++ answers_text (next_line line) (length answers) y)
    (ap (take 4) z ∙ take_at (numbers_of (reported a)) (numbers answers ++ l) 4 (four_numbers a))
    (ap (drop 4) z ∙ drop_at (numbers_of (reported a)) (numbers answers ++ l) 4 (four_numbers a))
    ∙ ap₂ (λ (x y : List ℕ). x ++ y) (answer_as line a) (numbers_text (next_line line) answers l)

first_is : (t : Bool) → from_bool t ≡ cond t 1 0
first_is true = refl
first_is false = refl

pub run_told : (l zeros nums s : List ℕ) (room first : ℕ) (r : Ran) (output now : Option (List ℕ)) → RunOf l room r s → nums ≡ ran_out l zeros → length zeros ≡ room → r.short ≡ false → first ≡ from_bool r.opened →
    Appends output now (answers_text first r.lines nums) → LinesWritten l s output now
unfolding ran_out
run_told l zeros nums s room first r output now k e n h f w =
    let fits : leb (4 * length (outcome l)) (length zeros) ≡ true = le-leb (4 * length (outcome l)) (length zeros) (omega (arith, ltb-false room (4 * length (outcome l)) (sym k.short ∙ h))) in
    let same : nums ≡ numbers (outcome l) ++ drop (4 * length (outcome l)) zeros = e ∙ rw fits refl in
    record {
      rows = k.rows ∙ rw h refl;
      wrote =
          subst (Appends output now)
          (ap₂ (λ (i : ℕ) (x : List ℕ). answers_text first i x) k.lines same ∙ numbers_text first (outcome l) (drop (4 * length (outcome l)) zeros)
          ∙ ap (λ (i : ℕ). lines_text i (outcome l)) (f ∙ first_is r.opened ∙ ap (λ (t : Bool). cond t 1 0) k.opened))
          w;
    }

pub ruleset printing = (print_start, print_room, print_next, print_end)
