-- The ways out of the whole run, as the code meets them. Assumes nothing.
use Prim.Native.Nat.{ℕ, ◌*◌, ◌/◌, ◌≤◌, ◌<◌}
use native.Mathlib.Omega.{arith}
use native.Mathlib.Nat.{div-add-mod', mod-lt}
use mathlib.Core.Path.{◌≡◌, refl, sym, ap, ap₂, ◌∙◌}
use mathlib.Core.Bool.{Bool, true, false, cond}
use mathlib.Core.List.{List, [], ◌∷◌, ◌++◌}
use lib.ListN.{length, drop}
use borrow.Author.Tests.{le-leb, lt-leb, le-ltb, lt-ltb}
use lib.Dec.{ltb}
use Rattle.layout.specs.Layout.{store_of, Opened}
use Rattle.metadata.specs.Answers.{is_applied, reported}
use Rattle.metadata.specs.Model.{StoreRows}
use Rattle.metadata.specs.Run.{run}
use Rattle.metadata.specs.declared.Answer.{Answer}
use Rattle.tape.specs.declared.Ran.{Ran}
use Rattle.tape.specs.Tape.{outcome, final_store, RunOf, ran_out}
use Rattle.tape_commands.specs.Commands.{Done}
use Rattle.answer_numbers.specs.Numbers.{numbers, written}
use Rattle.std.proofs.lemmas.Grind.{common_steps}
use Rattle.reading.specs.Reader.{read_from, lines, tape_answers, open_tape, body_at}
use Rattle.reading.proofs.Accepted.{applied}
use Rattle.tape_commands.proofs.Running.{lines-length}

-- ---- the whole run; given is what the opening was answered and s₀ the block that it left, b whether it was accepted, n the number of lines

quarter_over : (len n : ℕ) → len / 4 < n → len < 4 * n
quarter_over len n h = omega (arith, div-add-mod' len 4, mod-lt len {m = 4} (omega arith))

quarter_fits : (len n : ℕ) → n ≤ len / 4 → 4 * n ≤ len
quarter_fits len n h = omega (arith, div-add-mod' len 4)

module _ (l : List ℕ) (given : Answer) (s₀ : List ℕ) (b : Bool) (q : Opened (open_tape l) given s₀) (p : b ≡ is_applied given) where
  module _ (at n : ℕ) (out : List ℕ) (a : at ≡ body_at l) (m : n ≡ lines (read_from l at)) where
    pub answers_fit : n ≤ length out / 4 → 4 * lines (read_from l at) ≤ length out
    answers_fit h = omega (arith, quarter_fits (length out) n h)

    line_count : b ≡ true → length (outcome l) ≡ n
    unfolding outcome
    line_count e = rw (applied l given s₀ b q p e) (lines-length (open_tape l).rows (read_from l (body_at l)) ∙ sym (m ∙ ap (λ (k : ℕ). lines (read_from l k)) a))

    pub short-run : b ≡ true → length out / 4 < n → RunOf l (length out) (record { opened = true; short = ltb (length out / 4) n; lines = n }) s₀
    short-run e h =
        let f : length out < 4 * length (outcome l) = omega (arith, line_count e, quarter_over (length out) n h) in
        record {
          opened = sym (applied l given s₀ b q p e);
          short = lt-ltb (length out / 4) n h ∙ sym (lt-ltb (length out) (4 * length (outcome l)) f);
          lines = sym (line_count e);
          rows = rw (lt-ltb (length out / 4) n h) q.rows;
          sounds = q.sounds;
        }

    pub short_out : b ≡ true → length out / 4 < n → out ≡ ran_out l out
    unfolding ran_out
    short_out e h =
        let f : length out < 4 * length (outcome l) = omega (arith, line_count e, quarter_over (length out) n h) in
        rw (lt-leb (4 * length (outcome l)) (length out) f)

    module _ (s : List ℕ) (new : List ℕ) (d : Done l s₀ at out s new) where
      pub whole_run : b ≡ true → n ≤ length out / 4 → RunOf l (length out) (record { opened = true; short = ltb (length out / 4) n; lines = n }) s
      unfolding final_store
      whole_run e h =
          let f : 4 * length (outcome l) ≤ length out = omega (arith, line_count e, quarter_fits (length out) n h) in
          let w : store_of s ≡ run (open_tape l).rows (read_from l (body_at l)).commands =
          d.rows ∙ ap₂ (λ (x : StoreRows) (k : ℕ). run x (read_from l k).commands) q.rows a in
          record {
            opened = sym (applied l given s₀ b q p e);
            short = le-ltb (length out / 4) n h ∙ sym (le-ltb (length out) (4 * length (outcome l)) f);
            lines = sym (line_count e);
            rows = rw (le-ltb (length out / 4) n h, applied l given s₀ b q p e) w;
            sounds = d.sounds;
          }

      pub whole_out : b ≡ true → n ≤ length out / 4 → new ≡ ran_out l out
      unfolding ran_out outcome
      whole_out e h =
          let f : 4 * length (outcome l) ≤ length out = omega (arith, line_count e, quarter_fits (length out) n h) in
          let w : new ≡ numbers (tape_answers (open_tape l).rows (read_from l (body_at l))) ++ drop (4 * length (tape_answers (open_tape l).rows (read_from l (body_at l)))) out =
          d.answered
          ∙ ap₂ (λ (x : StoreRows) (k : ℕ). numbers (tape_answers x (read_from l k)) ++ drop (4 * length (tape_answers x (read_from l k))) out) q.rows a in
          rw (le-leb (4 * length (outcome l)) (length out) f) (w ∙ sym (rw (applied l given s₀ b q p e)))

  -- ---- a refused opening is the one answer
  module _ (e : b ≡ false) where
    refuses : is_applied (open_tape l).answer ≡ false
    refuses = ap is_applied (sym q.answer) ∙ sym p ∙ e

    refused_outcome : outcome l ≡ given ∷ []
    unfolding outcome
    refused_outcome = rw (refuses, q.answer)

    pub refused_run : (room : ℕ) (r : Ran) → r ≡ record { opened = false; short = ltb room 4; lines = 1 } → RunOf l room r s₀
    unfolding final_store
    refused_run room r h =
        rw h
        (record {
          opened = sym refuses;
          short = rw refused_outcome;
          lines = rw refused_outcome;
          rows = rw refuses (q.rows ∙ either (ltb room 4));
          sounds = q.sounds;
        })
      where
        either : (t : Bool) → (open_tape l).rows ≡ cond t (open_tape l).rows (open_tape l).rows
        either true = refl
        either false = refl

    pub refused_out : (out new : List ℕ) → new ≡ cond (ltb (length out) 4) out (written out 0 (reported given)) → new ≡ ran_out l out
    unfolding ran_out numbers
    refused_out out new h =
        let f : outcome l ≡ given ∷ [] = refused_outcome in
        grind (arith, common_steps)

-- for `using` on `run_whole`: what it asks of the commands' run, and a list that is too short; of a whole run each clause has its law
pub ruleset runs = (answers_fit, short-run, short_out)
