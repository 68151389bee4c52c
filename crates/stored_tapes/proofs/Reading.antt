-- Stored tapes, read and replayed one behind the other. Assumes nothing.
use Rattle.std.proofs.Common.{◌≡◌, ℕ, List, [], ◌∷◌, ◌++◌, length, refl, sym, ap, ◌∙◌, subst, append-nil, append_assoc}
use Rattle.std.specs.Prelude.{flat_map, Option, Result, Ok, Err, IfOk, OnOk}
use Rattle.std.specs.Io.KnownBytes.{Consumes, Appends}
use Rattle.std.proofs.KnownBytes.{Consumes-nil, Consumes-trans, Appends-nil, Appends-trans}
use Rattle.laws.specs.Bytes.{number_at}
use Rattle.stored_tapes.specs.Replays.{replay_text, extent_text}
use Rattle.stored_tapes.specs.StoredTapes.{StoredTape, stored_bytes, name_line, printed, ExtentReplayed, TapeReplayed, Replayed}
use Rattle.stored_tapes.specs.declared.Extent.{Extent}
use Rattle.stored_tapes.specs.declared.Extent.TheVariants as X

pub both_read : {V E : Type 0} (result : Result V E) (name tape : List ℕ) (a b c : Option (List ℕ)) → Consumes a b name → OnOk result (Consumes b c tape) → IfOk result (λ _. Consumes a c (name ++ tape))
both_read (Err e) name tape a b c x y = tt
both_read (Ok v) name tape a b c x y = Consumes-trans a b c name tape x y

-- both were read, and then the name was printed and the tape replayed, or as much of it as there was room for
pub extent_replayed : {E : Type 0} (result : Result Extent E) (head name tape : List ℕ) (a b o p q : Option (List ℕ)) →
    length head ≡ 16 → length name ≡ number_at 8 head 0 → length tape ≡ number_at 8 head 8 →
    Consumes a b (name ++ tape) → Appends o p (name_line name) → IfOk result (λ how. Appends p q (extent_text how tape)) → IfOk result (λ how. ExtentReplayed how head a b o q)
extent_replayed (Err e) head name tape a b o p q h n t x z w = tt
extent_replayed (Ok how) head name tape a b o p q h n t x z w =
    record {
      stored = record { head = head; name = name; tape = tape; head_length = h; name_length = n; tape_length = t };
      same = refl;
      read = x;
      wrote = Appends-trans o p q (name_line name) (extent_text how tape) z w;
    }

-- the same of a way that replays all of a tape
pub tape_replayed : {V E : Type 0} (result : Result V E) (head name tape : List ℕ) (a b o p q : Option (List ℕ)) →
    length head ≡ 16 → length name ≡ number_at 8 head 0 → length tape ≡ number_at 8 head 8 →
    Consumes a b (name ++ tape) → Appends o p (name_line name) → IfOk result (λ _. Appends p q (replay_text tape)) → IfOk result (λ _. TapeReplayed head a b o q)
tape_replayed (Err e) head name tape a b o p q h n t x z w = tt
tape_replayed {E = E} (Ok v) head name tape a b o p q h n t x z w = extent_replayed {E = E} (Ok X.Whole) head name tape a b o p q h n t x z w

pub none_replayed : (a o : Option (List ℕ)) → Replayed a a o o
none_replayed a o = record { tapes = []; read = Consumes-nil a; wrote = Appends-nil o }

mapped_more : (f : StoredTape → List ℕ) (ts : List StoredTape) (t : StoredTape) → flat_map f (ts ++ t ∷ []) ≡ flat_map f ts ++ f t
mapped_more f [] t = append-nil (f t)
mapped_more f (x ∷ ts) t = ap (λ (l : List ℕ). f x ++ l) (mapped_more f ts t) ∙ sym (append_assoc (f x) (flat_map f ts) (f t))

module _ (a b c o p : Option (List ℕ)) (r : Replayed a b o p) where
  pub one_replayed : (head : List ℕ) (d q : Option (List ℕ)) → Consumes b c head → TapeReplayed head c d p q → Replayed a d o q
  one_replayed head d q h t =
      let whole : Consumes b d (stored_bytes t.stored) =
      subst (λ (l : List ℕ). Consumes b d (l ++ (t.stored.name ++ t.stored.tape))) (sym t.same) (Consumes-trans b c d head (t.stored.name ++ t.stored.tape) h t.read) in
      record {
        tapes = r.tapes ++ t.stored ∷ [];
        read = subst (Consumes a d) (sym (mapped_more stored_bytes r.tapes t.stored)) (Consumes-trans a b d (flat_map stored_bytes r.tapes) (stored_bytes t.stored) r.read whole);
        wrote = subst (Appends o q) (sym (mapped_more printed r.tapes t.stored)) (Appends-trans o p q (flat_map printed r.tapes) (printed t.stored) r.wrote t.wrote);
      }

  pub all_replayed : Consumes b c [] → Replayed a c o p
  all_replayed e =
      record {
        tapes = r.tapes;
        read = subst (Consumes a c) (append-nil (flat_map stored_bytes r.tapes)) (Consumes-trans a b c (flat_map stored_bytes r.tapes) [] r.read e);
        wrote = r.wrote;
      }

pub ruleset reading = (none_replayed, one_replayed, all_replayed)
