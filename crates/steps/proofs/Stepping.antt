-- A command that was carried out, or not: what is left is the step of the definition, in a sound block. Assumes nothing.
use Rattle.std.specs.Prelude.{◌≡◌, ℕ, true, false, List, length}
use Rattle.std.proofs.Common.{refl, sym, ap, ◌∙◌, subst, eq-eqb}
use borrow.Author.Rules.{rules}
use Rattle.commits.specs.Commits.{Committed}
use Rattle.commits.proofs.Blocks.{sound_long, sound_store}
use Rattle.laws.proofs.ListLaws.{never, cond_true}
use Rattle.laws.proofs.Tests.{all_of_lem}
use Rattle.layout.specs.Layout.{store_of, sound, Stepped}
use Rattle.layout.specs.Places.{store_length}
use Rattle.metadata.proofs.Theorem.{step-sound, refused}
use Rattle.metadata.specs.Answers.{is_applied}
use Rattle.metadata.specs.Model.{decide, apply, step}
use Rattle.metadata.specs.Sound.{sound_rows}
use Rattle.metadata.specs.declared.Answer.{Answer}
use Rattle.metadata.specs.declared.Command.{Command}

module _ (b : List ℕ) (c : Command) (e : sound b ≡ true) where
  pub long_enough : length b ≡ store_length
  long_enough = sound_long b e

  pub applied : {a : Answer} → a ≡ decide (store_of b) c → is_applied a ≡ true → is_applied (decide (store_of b) c) ≡ true
  applied q g = ap is_applied (sym q) ∙ g

  -- what is answered Applied is carried out
  pub carried_out : {a : Answer} {b' : List ℕ} → a ≡ decide (store_of b) c → is_applied a ≡ true → Committed (apply (store_of b) c) b' → Stepped b c b' a
  unfolding sound
  carried_out {a} {b'} q g h =
      let r : store_of b' ≡ (step (store_of b) c).rows = h.rows ∙ sym (cond_true _ (apply (store_of b) c) (store_of b) (applied q g)) in
      record {
        answer = q;
        rows = r;
        sounds = all_of_lem _ (eq-eqb _ _ h.long, (h.directory, (h.catalog, (ap sound_rows r ∙ step-sound (store_of b) c (sound_store b e), tt))));
        refused = λ f. absurd (never (is_applied a) g f);
      }

  -- and what is not leaves the block as it was
  pub left_alone : {a : Answer} {b' : List ℕ} → a ≡ decide (store_of b) c → is_applied a ≡ false → b' ≡ b → Stepped b c b' a
  left_alone {a} {b'} q g r =
      record {
        answer = q;
        rows = ap store_of r ∙ sym (refused (store_of b) c (ap is_applied (sym q) ∙ g));
        sounds = ap sound r ∙ e;
        refused = λ f. r;
      }

-- for `using` on `step`
pub ruleset stepping = (long_enough, applied, carried_out, left_alone, rules)
