-- An opening in bytes, accepted, refused or cut short. Assumes nothing.
use Rattle.std.proofs.Common.{◌≡◌, ℕ, ◌+◌, ◌*◌, Bool, true, false, cond, List, length, replicate, eqb, ltb, refl, sym, ap, ◌∙◌, subst, arith, eqb-true}
use Rattle.std.specs.Prelude.{Result, Ok, Err}
use Rattle.laws.proofs.ListLaws.{never}
use Rattle.laws.specs.Bytes.{byte_at}
use Rattle.layout.proofs.Zero.{zero_block, zero_sound}
use Rattle.layout.specs.Layout.{store_of, sound, Opened}
use Rattle.layout.specs.Places.{store_length}
use Rattle.metadata.specs.Answers.{is_applied}
use Rattle.metadata.specs.Model.{Outcome}
use Rattle.metadata.specs.Opening.{opening, refused_rows}
use Rattle.metadata.specs.Rooms.{table_room}
use Rattle.metadata.specs.declared.Answer.{Answer}
use Rattle.metadata.specs.declared.Answer.TheVariants as A
use Rattle.reading.specs.Reader.{cut_opening, tables_of, group_of, body_at, open_tape}
use Rattle.stored_tapes.specs.Replays.{AtOpening}
use Rattle.store.specs.Slices.{opening_length, OpenOf}
use Rattle.store.specs.declared.Fault.{Fault}
use Rattle.store.specs.declared.Fault.TheVariants as F

abbrev over : Outcome
over = record { answer = A.InvalidCommand 10; rows = refused_rows }

-- n stands for the body's place, o for the opening of the tables
cut_go : (t u v : Bool) (n : ℕ) (o : Outcome) → cond t 0 (cond u 9 (cond v 0 (9 + n))) ≡ 0 → cond t cut_opening (cond u over (cond v cut_opening o)) ≡ cut_opening
cut_go true u v n o h = refl
cut_go false true v n o h = absurd (omega (arith, h))
cut_go false false true n o h = refl
cut_go false false false n o h = absurd (omega (arith, h))

cut : (l : List ℕ) → opening_length l ≡ 0 → open_tape l ≡ cut_opening
unfolding opening_length open_tape
cut l h = cut_go (ltb (length l) 9) (ltb table_room (byte_at l 0)) (ltb (length l) (body_at l)) (12 * byte_at l 0) (opening (tables_of l) (group_of l)) h

body_go : (t u v : Bool) (n : ℕ) (o : Outcome) → is_applied (cond t cut_opening (cond u over (cond v cut_opening o))).answer ≡ true → cond t 0 (cond u 9 (cond v 0 n)) ≡ n
body_go true u v n o h = absurd (never false h refl)
body_go false true v n o h = absurd (never false h refl)
body_go false false true n o h = absurd (never false h refl)
body_go false false false n o h = refl

-- the commands of an accepted opening begin behind its bytes
pub opening_whole : (l : List ℕ) → is_applied (open_tape l).answer ≡ true → opening_length l ≡ body_at l
unfolding opening_length open_tape
opening_whole l h = body_go (ltb (length l) 9) (ltb table_room (byte_at l 0)) (ltb (length l) (body_at l)) (body_at l) (opening (tables_of l) (group_of l)) h

-- a block of zeros that was lent holds what the opening gives
pub opened : (l b : List ℕ) (r : Result Answer Fault) (a : Answer) (s : List ℕ) → OpenOf b l r s → b ≡ replicate store_length 0 → eqb (length b) store_length ≡ true → r ≡ Ok a → Opened (open_tape l) a s
opened l b r a s k z n e = go (eqb (opening_length l) 0) refl
  where
    answered : a ≡ (open_tape l).answer
    answered = same (sym e ∙ k.result ∙ ap (λ t. cond t (Ok (open_tape l).answer) (Err F.NotAStore)) n)
      where
        same : {x y : Answer} → ◌≡◌ {A = Result Answer Fault} (Ok x) (Ok y) → x ≡ y
        same p = cc

    go : (t : Bool) → eqb (opening_length l) 0 ≡ t → Opened (open_tape l) a s
    go false f = subst (λ (x : Answer). Opened (open_tape l) x s) (sym answered) (k.opened n f)
    go true f =
        let c : s ≡ replicate store_length 0 = k.cut f ∙ z in
        record {
          answer = answered;
          rows = ap store_of c ∙ zero_block ∙ ap (λ (o : Outcome). o.rows) (sym (cut l (eqb-true _ _ f)));
          sounds = ap sound c ∙ zero_sound;
        }

pub opened_begun : (l s : List ℕ) (a : Answer) → Opened (open_tape l) a s → is_applied a ≡ true → AtOpening l s
opened_begun l s a k e = record { accepted = ap is_applied (sym k.answer) ∙ e; rows = k.rows; sounds = k.sounds }
