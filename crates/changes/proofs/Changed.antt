-- A part after an insertion or a replacement, as the contracts of this crate say it. Assumes nothing.
use Rattle.std.specs.Prelude.{ℕ, ◌≡◌, ◌≤◌, ◌<◌, Bool, true, false, List, length, map, take, set, Option, Some, None}
use Rattle.std.specs.Option.{unwrap_or}
use Rattle.std.proofs.Common.{sym, ap, ◌∙◌, arith, subst, take_all}
use Rattle.laws.specs.Keyed.{Keyed, has}
use Rattle.laws.specs.Rows.{find_index}
use Rattle.std.proofs.lemmas.List.{length-map, map-set}
use Rattle.laws.proofs.ListLaws.{never}
use Rattle.laws.proofs.Lookups.{found_none, has_found, spot}
use Rattle.tables.specs.Rows.{under, behind, rows_of, Inserted, Replaced}
use Rattle.tables.proofs.Put.{said_sorted, said_new, said_again, tidy_new, tidy_again, place_among, found_among}
use Rattle.changes.specs.Changes.{Added, Put}

-- where a row was found, there is one
pub found_some : {A : Type 0} (T : Keyed A) (k : T.Key) (m : List A) (at : ℕ) → find_index (under T k) m ≡ Some at → has T k m ≡ true
found_some T k m at p = rw (has_found T k m, p)

-- u are the rows in use
module _ {A : Type 0} (T : Keyed A) (f : List ℕ → A) (w room at : ℕ) (k : T.Key) (row t : List ℕ) (u : List (List ℕ)) (e : length row ≡ w) (s : u ≡ rows_of w room t) where
  place_is : at ≡ unwrap_or (find_index (behind T k) (map f u)) (length u) → at ≡ unwrap_or (find_index (behind T k) (map f (rows_of w room t))) (length (rows_of w room t))
  place_is p = p ∙ ap (λ (l : List (List ℕ)). unwrap_or (find_index (behind T k) (map f l)) (length l)) s

  found_is : {o : Option ℕ} → o ≡ find_index (under T k) (map f u) → o ≡ find_index (under T k) (map f (rows_of w room t))
  found_is p = p ∙ ap (λ (l : List (List ℕ)). find_index (under T k) (map f l)) s

  -- where a row is to go, and where one was found, is among them
  pub place_within : at ≡ unwrap_or (find_index (behind T k) (map f u)) (length u) → at ≤ length (rows_of (length row) room t)
  place_within p = place_among T f w room at k row t e (place_is p)

  pub found_within : A → Some at ≡ find_index (under T k) (map f u) → at < length (rows_of (length row) room t)
  found_within d p = found_among T f w room at k row t e d (sym (found_is p))

module _ {A : Type 0} (T : Keyed A) (f : List ℕ → A) (w room at : ℕ) (x : A) (row t t' : List ℕ) (e : length row ≡ w) where
  -- no row more has room
  no_room : room ≤ length (map f (rows_of w room t)) → room ≤ length (rows_of (length row) room t)
  no_room h = rw e (omega (arith, length-map (rows_of w room t) f))

  -- what the rows say where one was replaced: of any rows, rising or not
  pub said_set : Replaced (length row) room at row t t' → f row ≡ x → map f (rows_of w room t') ≡ set (map f (rows_of w room t)) at x
  said_set i q =
      let j : Replaced w room at row t t' = subst (λ (n : ℕ). Replaced n room at row t t') e i in
      ap (map f) j.rows ∙ map-set f (rows_of w room t) at row ∙ ap (set (map f (rows_of w room t)) at) q

-- a place that was found is inside
pub found_inside : {A : Type 0} (T : Keyed A) (f : List ℕ → A) (at : ℕ) (k : T.Key) (u : List (List ℕ)) → A → Some at ≡ find_index (under T k) (map f u) → at < length u
found_inside {A} T f at k u d p =
    let m : List A = map f u in
    let a : take (length m) m ≡ m = take_all (length m) m (omega arith) in
    let g = spot T k d d m (length m) at (rw a (sym p)) in
    omega (arith, g.within, length-map u f)

module _ {A : Type 0} (T : Keyed A) (f : List ℕ → A) (w room at : ℕ) (x : A) (fits : Bool) (row t t' : List ℕ) (u : List (List ℕ)) (e : length row ≡ w) (s : u ≡ rows_of w room t) (q : fits ≡ true → f row ≡ x) where
  -- it was inserted at its place
  pub added : at ≡ unwrap_or (find_index (behind T (T.key x)) (map f u)) (length u) → Inserted (length row) room at row t t' → Added T f w room x fits t t'
  added p i =
      record {
        rows = λ g h. said_sorted T f w room at x row t t' e (place_is T f w room at (T.key x) row t u e s p) i (q g) h;
        full = λ h. i.full (no_room T f w room at x row t t' e h);
        tidies = tidy_new T f w room at x row t t' e i;
        long = i.long;
      }

  -- its key is new
  pub put_new : None ≡ find_index (under T (T.key x)) (map f u) → at ≡ unwrap_or (find_index (behind T (T.key x)) (map f u)) (length u)
      → Inserted (length row) room at row t t' → Put T f w room x fits t t'
  put_new n p i =
      let none : None ≡ find_index (under T (T.key x)) (map f (rows_of w room t)) = found_is T f w room at (T.key x) row t u e s n in
      let absent : has T (T.key x) (map f (rows_of w room t)) ≡ false = found_none T (T.key x) (map f (rows_of w room t)) (sym none) in
      let a = place_is T f w room at (T.key x) row t u e s p in
      record {
        rows = λ g r h. said_new T f w room at x row t t' e a i (q g) absent (h absent);
        again = λ g j h. absurd (cc (none, h));
        new = λ g k h. said_sorted T f w room at x row t t' e a i (q g) h;
        full = λ k h. i.full (no_room T f w room at x row t t' e h);
        tidies = tidy_new T f w room at x row t t' e i;
        long = i.long;
      }

  -- its key is there
  pub put_again : Some at ≡ find_index (under T (T.key x)) (map f u) → Replaced (length row) room at row t t' → Put T f w room x fits t t'
  put_again p i =
      let m : List A = map f (rows_of w room t) in
      let there : find_index (under T (T.key x)) m ≡ Some at = sym (found_is T f w room at (T.key x) row t u e s p) in
      let known : has T (T.key x) m ≡ true = found_some T (T.key x) m at there in
      record {
        rows = λ g r h. said_again T f w room at x row t t' e there i (q g) r;
        again = λ g j h. let k : at ≡ j = cc (there, h) in said_set T f w room at x row t t' e i (q g) ∙ ap (λ (n : ℕ). set m n x) k;
        new = λ g k h. absurd (never _ known k);
        full = λ k h. absurd (never _ known k);
        tidies = tidy_again T f w room at x row t t' e i;
        long = i.long;
      }
