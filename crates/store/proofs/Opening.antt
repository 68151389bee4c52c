-- An opening in bytes: how long it is, and what a store is after it. Assumes nothing.
use Rattle.std.specs.Prelude.{◌≡◌, ℕ, ◌+◌, ◌*◌, Bool, true, false, cond, List, eqb, ltb, length, Ok}
use Rattle.std.proofs.Common.{refl, sym, ap, ◌∙◌, arith, eq-eqb, eqb-true}
use Rattle.laws.proofs.ListLaws.{never}
use Rattle.laws.specs.Bytes.{byte_at}
use Rattle.layout.specs.Places.{store_length}
use Rattle.metadata.specs.Answers.{is_applied}
use Rattle.metadata.specs.Model.{Outcome}
use Rattle.metadata.specs.Opening.{opening, refused_rows}
use Rattle.metadata.specs.Rooms.{table_room}
use Rattle.metadata.specs.declared.Answer.TheVariants as A
use Rattle.metadata.specs.declared.kinds.TapeFault.TheVariants as T
use Rattle.reading.specs.Reader.{body_at, cut_opening, tables_of, group_of, open_tape}
use Rattle.store.specs.Slices.{opening_length, OpenOf}

abbrev over : Outcome
over = record { answer = A.InvalidCommand 10; rows = refused_rows }

-- the length is 0 just where the opening is cut short; n stands for the body's place, o for the opening of the tables
cut_go : (t u v : Bool) (n : ℕ) (o : Outcome) → cond t 0 (cond u 9 (cond v 0 (9 + n))) ≡ 0 → (cond t cut_opening (cond u over (cond v cut_opening o))).answer ≡ A.BadTape T.Cut 0
cut_go true u v n o h = refl
cut_go false true v n o h = absurd (omega (arith, h))
cut_go false false true n o h = refl
cut_go false false false n o h = absurd (omega (arith, h))

pub cut_answer : (l : List ℕ) → opening_length l ≡ 0 → (open_tape l).answer ≡ A.BadTape T.Cut 0
unfolding opening_length open_tape
cut_answer l h = cut_go (ltb (length l) 9) (ltb table_room (byte_at l 0)) (ltb (length l) (body_at l)) (12 * byte_at l 0) (opening (tables_of l) (group_of l)) h

pub not_cut : (l : List ℕ) → is_applied (open_tape l).answer ≡ true → eqb (opening_length l) 0 ≡ false
not_cut l e = go (eqb (opening_length l) 0) refl
  where
    go : (t : Bool) → eqb (opening_length l) 0 ≡ t → t ≡ false
    go false f = refl
    go true f = absurd (never (is_applied (open_tape l).answer) e (ap is_applied (cut_answer l (eqb-true _ _ f))))

-- such an opening is answered, and writes nothing
module _ (b l : List ℕ) {n : ℕ} (q : n ≡ opening_length l) (h : length b ≡ store_length) where
  pub cut_short : n ≡ 0 → OpenOf b l (Ok (A.BadTape T.Cut 0)) b
  cut_short z =
      let e : opening_length l ≡ 0 = sym q ∙ z in
      record {
        result = rw (eq-eqb _ _ h, cut_answer l e);
        opened = λ f g. absurd (never _ (eq-eqb _ _ e) g);
        cut = λ f. refl;
        no_store = λ f. refl;
      }
