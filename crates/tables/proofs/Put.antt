-- A table in bytes, by what its rows say, after a row was put at its place or in another's stead: f reads a row's bytes, and the rows are in the order of a key. Over any kind of table. Assumes nothing.
use Rattle.std.specs.Prelude.{◌≡◌, ℕ, ◌<◌, ◌≤◌, true, false, List, length, map, take, Some}
use Rattle.std.specs.Option.{unwrap_or}
use Rattle.std.proofs.Common.{sym, subst, ◌∙◌, arith, take_all}
use Rattle.std.proofs.lemmas.List.{length-map}
use Rattle.laws.specs.Keyed.{Keyed, before, has, put, Rising}
use Rattle.laws.specs.Rows.{find_index, insert_by}
use Rattle.laws.proofs.Insert.{insert_at, place_le}
use Rattle.laws.proofs.KeyedLaws.{put_insert}
use Rattle.laws.proofs.Lookups.{spot}
use Rattle.tables.specs.Rows.{under, behind, rows_of, tidy, Inserted, Replaced}
use Rattle.tables.proofs.Records.{put_sorted, put_in_stead}

module _ {A : Type 0} (T : Keyed A) (f : List ℕ → A) where
  -- what the rows in use say
  abbrev pub said : ℕ → ℕ → List ℕ → List A
  said w room t = map f (rows_of w room t)

  module _ (w room at : ℕ) (x : A) (row t t' : List ℕ) (e : length row ≡ w) where
    -- a row at its place, where there is room
    pub said_sorted : at ≡ unwrap_or (find_index (behind T (T.key x)) (said w room t)) (length (rows_of w room t)) → Inserted (length row) room at row t t' → f row ≡ x
        → length (said w room t) < room → said w room t' ≡ insert_by (before T) x (said w room t)
    said_sorted p i q h =
        let j : Inserted w room at row t t' = subst (λ (n : ℕ). Inserted n room at row t t') e i in
        let r : rows_of w room t' ≡ insert_at at row (rows_of w room t) = j.rows (omega (arith, length-map (rows_of w room t) f, h)) in
        rw r (put_sorted f T x row (rows_of w room t) q at p)

    -- a new key: where the row is put there was none with its key
    pub said_new : at ≡ unwrap_or (find_index (behind T (T.key x)) (said w room t)) (length (rows_of w room t)) → Inserted (length row) room at row t t' → f row ≡ x
        → has T (T.key x) (said w room t) ≡ false → length (said w room t) < room → said w room t' ≡ put T x (said w room t)
    said_new p i q new h = said_sorted p i q h ∙ sym (put_insert T x (said w room t) new)

    -- a key that is there: the row takes the place of the one with its key
    pub said_again : find_index (under T (T.key x)) (said w room t) ≡ Some at → Replaced (length row) room at row t t' → f row ≡ x
        → Rising T (said w room t) → said w room t' ≡ put T x (said w room t)
    said_again p i q h =
        let j : Replaced w room at row t t' = subst (λ (n : ℕ). Replaced n room at row t t') e i in
        rw j.rows (put_in_stead f T x row (rows_of w room t) q at h p)

    pub tidy_new : Inserted (length row) room at row t t' → tidy w room t ≡ true → tidy w room t' ≡ true
    tidy_new i = (subst (λ (n : ℕ). Inserted n room at row t t') e i).tidies

    pub tidy_again : Replaced (length row) room at row t t' → tidy w room t ≡ true → tidy w room t' ≡ true
    tidy_again i = (subst (λ (n : ℕ). Replaced n room at row t t') e i).tidies

  -- both places are among the rows in use
  module _ (w room at : ℕ) (k : T.Key) (row t : List ℕ) (e : length row ≡ w) where
    pub place_among : at ≡ unwrap_or (find_index (behind T k) (said w room t)) (length (rows_of w room t)) → at ≤ length (rows_of (length row) room t)
    place_among p =
        let m : List A = said w room t in
        let n : length m ≡ length (rows_of w room t) = length-map (rows_of w room t) f in
        let a : take (length m) m ≡ m = take_all (length m) m (omega arith) in
        let b : unwrap_or (find_index (behind T k) m) (length m) ≤ length m = rw a at (place_le (behind T k) (length m) m (omega arith)) in
        rw (e, p, ← n) b

    pub found_among : (d : A) → find_index (under T k) (said w room t) ≡ Some at → at < length (rows_of (length row) room t)
    found_among d p =
        let m : List A = said w room t in
        let n : length m ≡ length (rows_of w room t) = length-map (rows_of w room t) f in
        let a : take (length m) m ≡ m = take_all (length m) m (omega arith) in
        rw e (let g = (spot T k d d m (length m) at (rw a p)).inside in omega (arith, n, g))
