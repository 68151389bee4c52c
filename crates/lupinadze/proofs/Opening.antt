-- An opening on a store that is lent: what each way out of the call gives. Assumes nothing.
use Rattle.std.specs.Prelude.{◌≡◌, ℕ, ◌≤◌, ◌<◌, Bool, true, false, cond, List, [], ◌∷◌, ◌++◌, leb, eqb, length, drop, Ok, Err}
use Rattle.std.proofs.Common.{refl, sym, ap, subst, ◌∙◌, le-leb, append-nil}
use Rattle.std.proofs.lemmas.Bool.{lt-leb}
use Rattle.answer_numbers.proofs.Numbers.{numbers-length}
use Rattle.answer_numbers.specs.Numbers.{numbers_of, numbers, written}
use Rattle.laws.proofs.ListLaws.{never}
use Rattle.layout.specs.Places.{store_length}
use Rattle.lupinadze.specs.Called.{OpenCall, code}
use Rattle.lupinadze.specs.Given.{short, not_a_store}
use Rattle.metadata.specs.Answers.{reported}
use Rattle.metadata.specs.declared.Answer.{Answer}
use Rattle.reading.specs.Reader.{open_tape}
use Rattle.store.specs.Slices.{opening_length, OpenOf}
use Rattle.store.specs.declared.Fault.{Fault}
use Rattle.store.specs.declared.Fault.TheVariants as F

one : (a : Answer) → numbers (a ∷ []) ≡ numbers_of (reported a)
unfolding numbers
one a = append-nil (numbers_of (reported a))

module _ (b l out : List ℕ) where
  room : length (numbers ((open_tape l).answer ∷ [])) ≡ 4
  room = numbers-length ((open_tape l).answer ∷ [])

  -- the list has no room for the answer
  pub left_alone : {r : ℕ} → r ≡ cond (eqb (length b) store_length) short not_a_store → length out < 4 → OpenCall b l out r b out
  left_alone q h =
      let e : leb 4 (length out) ≡ false = lt-leb 4 (length out) h in
      record {
        given = record { result = rw (room, e) q; list = rw (room, e) (go (eqb (length b) store_length)) };
        opened = λ f g. absurd (never _ g e);
        no_store = λ f. refl;
        short = λ f. refl;
      }
    where
      go : (t : Bool) → out ≡ cond t out out
      go true = refl
      go false = refl

  -- an opening was answered
  pub answered : {a : Answer} {r : ℕ} {b' out' : List ℕ} → OpenOf b l (Ok a) b' → out' ≡ written out 0 (reported a) → r ≡ opening_length l → 4 ≤ length out
      → OpenCall b l out r b' out'
  answered {a} {r} {b'} {out'} o w q h = go (eqb (length b) store_length) refl
    where
      g : leb 4 (length out) ≡ true
      g = le-leb 4 (length out) h

      go : (t : Bool) → eqb (length b) store_length ≡ t → OpenCall b l out r b' out'
      go true e =
          let x = rw e at o.result in
          let p : a ≡ (open_tape l).answer = cc in
          record {
            given =
                record {
                  result = rw (e, room, g) q;
                  list =
                      rw (e, room, g)
                      (w ∙ ap (λ (y : Answer). numbers_of (reported y) ++ drop 4 out) p ∙ ap (λ (y : List ℕ). y ++ drop 4 out) (sym (one (open_tape l).answer)));
                };
            opened = λ f k. subst (λ (y : Answer). OpenOf b l (Ok y) b') p o;
            no_store = λ f. absurd (never _ e f);
            short = λ f. absurd (never _ g f);
          }
      go false e = let x = rw e at o.result in let z : ⊥ = cc in absurd z

  -- the memory is no store
  pub no_store : {f : Fault} {r : ℕ} {b' : List ℕ} → OpenOf b l (Err f) b' → r ≡ code f → OpenCall b l out r b' out
  no_store {f} {r} {b'} o q = go (eqb (length b) store_length) refl
    where
      go : (t : Bool) → eqb (length b) store_length ≡ t → OpenCall b l out r b' out
      go true e = let x = rw e at o.result in let z : ⊥ = cc in absurd z
      go false e =
          let x = rw e at o.result in
          let p : f ≡ F.NotAStore = cc in
          record {
            given = record { result = rw e (q ∙ ap code p); list = rw e refl };
            opened = λ h k. absurd (never _ h e);
            no_store = λ h. o.no_store h;
            short = λ h. o.no_store e;
          }
