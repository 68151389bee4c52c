-- What a table is after an insertion or a replacement of a row's bytes. Assumes nothing.
use borrow.Rule.Slice.PartMut.{put_mid}
use Rattle.std.specs.Prelude.{◌≡◌, ℕ, ◌+◌, ◌-◌, ◌*◌, ◌<◌, ◌≤◌, zero, suc, min, Bool, true, false, ◌&&◌, List, [], ◌∷◌, ◌++◌, length, take, drop, set}
use Rattle.std.specs.Simd.{first_chunks}
use Rattle.std.proofs.Common.{refl, sym, ap, subst, ◌∙◌, arith, append_assoc, take-add, take_all, leb-true, eq-eqb, le-leb, add-one}
use Rattle.std.proofs.Math.Nat.{suc-mul, mul-le-mul_right}
use Rattle.std.proofs.Math.ListN.{drop_of_length-le}
use Rattle.laws.proofs.Insert.{insert_at}
use Rattle.std.proofs.lemmas.List.{append-nil, length-append, length-drop, length-take-le, take_at, drop_at, drop-drop}
use Rattle.laws.specs.Bytes.{is_zero, little, number_at, in_eight}
use Rattle.laws.specs.Lists.{every}
use Rattle.laws.proofs.Tests.{each_of, all_of_lem}
use Rattle.laws.proofs.ListLaws.{never}
use Rattle.numbers.proofs.Numbers.{eight_length, eight_read}
use Rattle.tables.specs.Rows.{rows_of, tidy, opened_for, Inserted, Replaced}
use Rattle.tables.proofs.Chunks.{chunks_length, chunks_put, behind_put, whole_length, chunks_set, behind_set, replaced_length}

every_go : (t u : Bool) → (t && u) ≡ true → u ≡ true
every_go true u e = e
every_go false u e = absurd (never false e refl)

every_drop : (n : ℕ) (l : List ℕ) → every is_zero l ≡ true → every is_zero (drop n l) ≡ true
every_drop zero l e = e
every_drop (suc n) [] e = refl
every_drop (suc n) (x ∷ l) e = every_drop n l (every_go (is_zero x) (every is_zero l) e)

-- a table whose count and rows are known
rows_by : (w room m : ℕ) (t l : List ℕ) → number_at 8 t 0 ≡ m → m ≤ room → drop 8 t ≡ l → rows_of w room t ≡ first_chunks w m l
unfolding rows_of
rows_by w room m t l p h q = rw (p, q) (ap (λ (k : ℕ). first_chunks w k l) (omega arith))

-- and what tidy asks
tidy_by : (w room m : ℕ) (t : List ℕ) → length t ≡ 8 + room * w → number_at 8 t 0 ≡ m → m ≤ room → every is_zero (drop (8 + m * w) t) ≡ true → tidy w room t ≡ true
unfolding tidy
tidy_by w room m t e p h z = all_of_lem _ (eq-eqb _ _ e, (le-leb _ _ (omega (arith, p, h)), (rw p z, tt)))

tidy_says : (w room m : ℕ) (t : List ℕ) → number_at 8 t 0 ≡ m → tidy w room t ≡ true → every is_zero (drop (8 + m * w) t) ≡ true
unfolding tidy
tidy_says w room m t p h = let g = each_of _ h in rw p at g.1.1.0

module _ (room : ℕ) (row t : List ℕ) (n : ℕ) (p : n ≡ number_at 8 t 0) where
  used_some : n < room → length (rows_of (length row) room t) ≡ n
  unfolding rows_of
  used_some q = chunks_length (length row) (min (number_at 8 t 0) room) (drop 8 t) ∙ omega (arith, p)

  used_all : room ≤ n → length (rows_of (length row) room t) ≡ room
  unfolding rows_of
  used_all q = chunks_length (length row) (min (number_at 8 t 0) room) (drop 8 t) ∙ omega (arith, p)

  rows_are : n < room → rows_of (length row) room t ≡ first_chunks (length row) n (drop 8 t)
  unfolding rows_of
  rows_are q = ap (λ (m : ℕ). first_chunks (length row) m (drop 8 t)) (omega (arith, p))

  -- without room
  pub full : (at : ℕ) → room ≤ n → Inserted (length row) room at row t t
  full at q = record { rows = λ h. absurd (omega (arith, used_all q)); tidies = λ h. h; full = λ h. refl; long = refl }

  module _ (e : length t ≡ 8 + room * length row) (q : n < room) where
    body_long : length (drop 8 t) ≡ room * length row
    body_long = length-drop 8 t ∙ omega (arith, e)

    body : take (length t - 8) (drop 8 t) ≡ drop 8 t
    body = take_all (length t - 8) (drop 8 t) (omega (arith, e, body_long))

    next_fits : (n + 1) * length row ≤ room * length row
    next_fits = mul-le-mul_right (length row) (let z : n + 1 ≤ room = omega arith in z)

    pub room_for : (at : ℕ) → at ≤ length (rows_of (length row) room t) → (at ≤ n) × ((n + 1) * length row ≤ length (take (length t - 8) (drop 8 t)))
    room_for at k = (omega (arith, used_some q), rw body (omega (arith, body_long, next_fits)))

    module _ (at : ℕ) (h : room < 65536) (k : at ≤ length (rows_of (length row) room t)) (l u : List ℕ)
        (r : l ≡ opened_for n at row (take (length t - 8) (drop 8 t))) (s : u ≡ in_eight (n + 1)) where
      at_most : at ≤ n
      at_most = (room_for at k).0

      has_room : (n + 1) * length row ≤ length (drop 8 t)
      has_room = omega (arith, body_long, next_fits)

      abbrev moved : List ℕ
      moved = opened_for n at row (drop 8 t)

      moved_long : length moved ≡ length (drop 8 t)
      moved_long = whole_length (length row) n at row (drop 8 t) at_most has_room refl

      joins : u ++ drop 8 (put_mid 8 (length t - 8) t l) ≡ in_eight (n + 1) ++ moved
      joins =
          let f : length (take 8 t) ≡ 8 = length-take-le 8 t (omega (arith, e)) in
          let z : drop (length t - 8) (drop 8 t) ≡ [] = drop_of_length-le (drop 8 t) (omega (arith, e, body_long)) in
          let g : l ≡ moved = r ∙ ap (opened_for n at row) body in
          rw s (ap (λ (x : List ℕ). in_eight (n + 1) ++ x)
          (drop_at (take 8 t) (l ++ drop (length t - 8) (drop 8 t)) 8 f ∙ ap (λ (x : List ℕ). l ++ x) z ∙ append-nil l ∙ g))

      count_next : number_at 8 (in_eight (n + 1) ++ moved) 0 ≡ n + 1
      count_next = eight_read (n + 1) moved (omega (arith, h, q))

      rest_next : drop 8 (in_eight (n + 1) ++ moved) ≡ moved
      rest_next = drop_at (in_eight (n + 1)) moved 8 (eight_length (n + 1))

      rows_next : rows_of (length row) room (in_eight (n + 1) ++ moved) ≡ insert_at at row (rows_of (length row) room t)
      rows_next =
          rows_by (length row) room (n + 1) (in_eight (n + 1) ++ moved) moved count_next (omega arith) rest_next
          ∙ chunks_put (length row) n at row (drop 8 t) at_most has_room refl
          ∙ ap (insert_at at row) (sym (rows_are q))

      long_next : length (in_eight (n + 1) ++ moved) ≡ length t
      long_next = length-append (in_eight (n + 1)) moved ∙ omega (arith, eight_length (n + 1), moved_long, body_long, e)

      zeros_next : every is_zero (drop (8 + n * length row) t) ≡ true → every is_zero (drop (8 + (n + 1) * length row) (in_eight (n + 1) ++ moved)) ≡ true
      zeros_next z =
          let m : (n + 1) * length row ≡ n * length row + length row = rw add-one (suc-mul n (length row)) in
          let a : drop (8 + (n + 1) * length row) (in_eight (n + 1) ++ moved) ≡ drop (length row) (drop (8 + n * length row) t) =
          sym (drop-drop ((n + 1) * length row) 8 (in_eight (n + 1) ++ moved)) ∙ ap (drop ((n + 1) * length row)) rest_next
          ∙ behind_put (length row) n at row (drop 8 t) at_most has_room refl
          ∙ drop-drop ((n + 1) * length row) 8 t ∙ ap (λ (i : ℕ). drop i t) (omega (arith, m)) ∙ sym (drop-drop (length row) (8 + n * length row) t) in
          ap (every is_zero) a ∙ every_drop (length row) (drop (8 + n * length row) t) z

      pub inserted : Inserted (length row) room at row t (u ++ drop 8 (put_mid 8 (length t - 8) t l))
      inserted =
          subst (Inserted (length row) room at row t) (sym joins)
          (record {
            rows = λ f. rows_next;
            tidies = λ f. tidy_by (length row) room (n + 1) (in_eight (n + 1) ++ moved) (long_next ∙ e) count_next (omega arith) (zeros_next (tidy_says (length row) room n t (sym p) f));
            full = λ f. absurd (omega (arith, used_some q));
            long = long_next;
          })

-- the row at a place in use, replaced
module _ (room at : ℕ) (row t : List ℕ) (e : length t ≡ 8 + room * length row) (k : at < length (rows_of (length row) room t)) where
  abbrev n : ℕ
  n = min (number_at 8 t 0) room

  used_now : length (rows_of (length row) room t) ≡ n
  unfolding rows_of
  used_now = chunks_length (length row) n (drop 8 t)

  below : at < n
  below = omega (arith, used_now, k)

  in_room : n * length row ≤ room * length row
  in_room = mul-le-mul_right (length row) (let z : n ≤ room = omega arith in z)

  next_in : suc at * length row ≤ n * length row
  next_in = mul-le-mul_right (length row) (let z : suc at ≤ n = omega (arith, below) in z)

  body_len : length (drop 8 t) ≡ room * length row
  body_len = length-drop 8 t ∙ omega (arith, e)

  -- its place is within the table
  pub within : 8 + at * length row + length row ≤ length t
  within = omega (arith, e, suc-mul at (length row), next_in, in_room)

  abbrev body_after : List ℕ
  body_after = take (at * length row) (drop 8 t) ++ (row ++ drop (suc at * length row) (drop 8 t))

  abbrev place : ℕ
  place = 8 + at * length row

  put_is : put_mid place (place + length row - place) t row ≡ take 8 t ++ body_after
  put_is =
      let a : place + length row - place ≡ length row = omega arith in
      let b : drop (length row) (drop place t) ≡ drop (suc at * length row) (drop 8 t) =
      drop-drop (length row) place t ∙ ap (λ (i : ℕ). drop i t) (omega (arith, suc-mul at (length row))) ∙ sym (drop-drop (suc at * length row) 8 t) in
      rw a (ap (λ (x : List ℕ). take place t ++ (row ++ x)) b
      ∙ ap (λ (x : List ℕ). x ++ (row ++ drop (suc at * length row) (drop 8 t))) (take-add 8 (at * length row) t)
      ∙ append_assoc (take 8 t) (take (at * length row) (drop 8 t)) (row ++ drop (suc at * length row) (drop 8 t)))

  front_long : length (take 8 t) ≡ 8
  front_long = length-take-le 8 t (omega (arith, e))

  count_same : number_at 8 (take 8 t ++ body_after) 0 ≡ number_at 8 t 0
  count_same = ap little (take_at (take 8 t) body_after 8 front_long)

  body_is : drop 8 (take 8 t ++ body_after) ≡ body_after
  body_is = drop_at (take 8 t) body_after 8 front_long

  after_long : length (take 8 t ++ body_after) ≡ length t
  after_long =
      length-append (take 8 t) body_after
      ∙ omega (arith, front_long, replaced_length (length row) n at row (drop 8 t) below (omega (arith, body_len, in_room)) refl, body_len, e)

  rows_after : rows_of (length row) room (take 8 t ++ body_after) ≡ set (rows_of (length row) room t) at row
  unfolding rows_of
  rows_after =
      rw (count_same, body_is) (chunks_set (length row) n at row (drop 8 t) below (omega (arith, body_len, in_room)) refl)

  tidy_after : tidy (length row) room t ≡ true → tidy (length row) room (take 8 t ++ body_after) ≡ true
  unfolding tidy
  tidy_after f =
      let g = each_of _ f in
      let c : number_at 8 t 0 ≤ room = leb-true _ _ g.1.0 in
      let m : n ≡ number_at 8 t 0 = omega (arith, c) in
      let d : drop (8 + n * length row) (take 8 t ++ body_after) ≡ drop (8 + n * length row) t =
      sym (drop-drop (n * length row) 8 (take 8 t ++ body_after)) ∙ ap (drop (n * length row)) body_is
      ∙ behind_set (length row) n at row (drop 8 t) below (omega (arith, body_len, in_room)) refl ∙ drop-drop (n * length row) 8 t in
      let z : every is_zero (drop (8 + n * length row) t) ≡ true = rw m g.1.1.0 in
      tidy_by (length row) room n (take 8 t ++ body_after) (after_long ∙ e) (count_same ∙ sym m) (omega arith) (ap (every is_zero) d ∙ z)

  pub replaced_at : (r : List ℕ) → r ≡ row → Replaced (length row) room at row t (put_mid place (place + length row - place) t r)
  replaced_at r q =
      rw (q, put_is) (record { rows = rows_after; tidies = tidy_after; long = after_long })
