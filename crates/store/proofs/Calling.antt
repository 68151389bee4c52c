-- Commands in bytes: what they are answered, and what they leave, by whether there is room for the answers, and whether the block is sound. Assumes nothing.
use Rattle.std.specs.Prelude.{◌≡◌, ℕ, ◌*◌, ◌≤◌, ◌<◌, ◌/◌, Bool, true, false, cond, List, length, Ok, Err}
use Rattle.std.proofs.Common.{refl, sym, ap, ◌∙◌, arith, le-leb}
use Rattle.std.proofs.lemmas.Bool.{lt-leb}
use Rattle.laws.proofs.ListLaws.{never}
use Rattle.layout.specs.Layout.{store_of, sound}
use Rattle.reading.specs.Reader.{read_from, tape_answers, lines}
use Rattle.store.proofs.Refusing.{refusals-length}
use Rattle.store.specs.Slices.{refusals, answered_into, call_answers, fits, ApplyOf}
use Rattle.store.specs.declared.Fault.TheVariants as F
use Rattle.tape_commands.proofs.Running.{lines-length}
use Rattle.tape_commands.specs.Commands.{Done}

module _ (b l : List ℕ) where
  pub calls-length : length (call_answers b l) ≡ lines (read_from l 0)
  unfolding call_answers
  calls-length = go (sound b)
    where
      go : (t : Bool) → length (cond t (tape_answers (store_of b) (read_from l 0)) (refusals (read_from l 0))) ≡ lines (read_from l 0)
      go true = lines-length (store_of b) (read_from l 0)
      go false = refusals-length (read_from l 0)

  module _ (out : List ℕ) {n : ℕ} (q : n ≡ lines (read_from l 0)) where
    counted : n ≡ length (call_answers b l)
    counted = q ∙ sym calls-length

    -- the list is too short
    pub too_short : length out / 4 < n → ApplyOf b l out (Err F.Short) b out
    too_short h =
        let e : fits (call_answers b l) out ≡ false = lt-leb (4 * length (call_answers b l)) (length out) (omega (arith, counted, h)) in
        record {
          result = rw e;
          answered = rw e;
          rows = λ f. rw e;
          sounds = λ f. f;
          no_store = λ f. refl;
          short = λ f. refl;
        }

    module _ (h : n ≤ length out / 4) where
      there : fits (call_answers b l) out ≡ true
      there = le-leb (4 * length (call_answers b l)) (length out) (omega (arith, counted, h))

      -- a sound block: the commands are run
      pub are_run : {b' out' : List ℕ} → sound b ≡ true → Done l b 0 out b' out' → ApplyOf b l out (Ok n) b' out'
      unfolding call_answers
      are_run e d =
          record {
            result = rw there (ap Ok counted);
            answered = rw there (rw e d.answered);
            rows = λ f. rw there d.rows;
            sounds = λ f. d.sounds;
            no_store = λ f. absurd (never _ e f);
            short = λ f. absurd (never _ there f);
          }

      -- no sound store: each is refused, and the block stays as it is
      pub are_refused : {out' : List ℕ} → sound b ≡ false → out' ≡ answered_into (refusals (read_from l 0)) out → ApplyOf b l out (Ok n) b out'
      unfolding call_answers
      are_refused e d =
          record {
            result = rw there (ap Ok counted);
            answered = rw there (rw e d);
            rows = λ f. absurd (never _ f e);
            sounds = λ f. absurd (never _ f e);
            no_store = λ f. refl;
            short = λ f. absurd (never _ there f);
          }
