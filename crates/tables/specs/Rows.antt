-- A table in bytes: the count of its rows in eight bytes, then its rows, each of one width, then zeros. Over any width. Assumes nothing.
use Rattle.std.specs.Prelude.{◌≡◌, ℕ, ◌+◌, ◌*◌, ◌<◌, ◌≤◌, min, Bool, true, List, [], ◌∷◌, ◌++◌, leb, eqb, length, take, drop, set}
use Rattle.std.specs.Int.{w64, from_le_bytes}
use Rattle.std.specs.Simd.{first_chunks}
use Rattle.laws.specs.Bytes.{is_zero, number_at}
use Rattle.laws.specs.Keyed.{Keyed}
use Rattle.laws.specs.Lists.{every}
use Rattle.laws.specs.Tests.{all_of}

-- the row has this key
abbrev pub under : {A : Type 0} (T : Keyed A) → T.Key → A → Bool
under T k x = T.eq (T.key x) k

-- the row stands behind this key
abbrev pub behind : {A : Type 0} (T : Keyed A) → T.Key → A → Bool
behind T k x = T.lt k (T.key x)

abbrev pub count_of : List ℕ → ℕ
count_of t = number_at 8 t 0

-- the rows in use, each w bytes; a count over the room reads as the room
unfoldable pub rows_of : ℕ → ℕ → List ℕ → List (List ℕ)
rows_of w room t = first_chunks w (min (count_of t) room) (drop 8 t)

-- as long as the room asks, the count within the room, and zeros behind the rows in use
unfoldable pub tidy : ℕ → ℕ → List ℕ → Bool
tidy w room t =
    all_of (eqb (length t) (8 + room * w) ∷ leb (count_of t) room ∷ every is_zero (drop (8 + count_of t * w) t) ∷ [])

-- n rows and what is behind them, with a row more at a place: those from there on are moved up
abbrev pub opened_for : ℕ → ℕ → List ℕ → List ℕ → List ℕ
opened_for n at row l =
    take (at * length row) l ++ (row ++ (drop (at * length row) (take (n * length row) l) ++ drop ((n + 1) * length row) l))

-- ---- what a table is after a change of one row

-- a row was put at a place among the rows in use; without room the table is as it was
pub record Inserted (w room at : ℕ) (row t t' : List ℕ) : Type 0 where
  pub rows : length (rows_of w room t) < room → rows_of w room t' ≡ take at (rows_of w room t) ++ row ∷ drop at (rows_of w room t)
  pub tidies : tidy w room t ≡ true → tidy w room t' ≡ true
  pub full : room ≤ length (rows_of w room t) → t' ≡ t
  pub long : length t' ≡ length t

-- the row at a place among those in use was replaced
pub record Replaced (w room at : ℕ) (row t t' : List ℕ) : Type 0 where
  pub rows : rows_of w room t' ≡ set (rows_of w room t) at row
  pub tidies : tidy w room t ≡ true → tidy w room t' ≡ true
  pub long : length t' ≡ length t

-- eight bytes that are zeros, read as a number
abbrev pub zero_word : List ℕ → Bool
zero_word w = eqb (from_le_bytes w64 w) 0

-- four words of zeros
abbrev pub zero_block : List ℕ → Bool
zero_block b = all_of (eqb (number_at 8 b 0) 0 ∷ eqb (number_at 8 b 8) 0 ∷ eqb (number_at 8 b 16) 0 ∷ eqb (number_at 8 b 24) 0 ∷ [])
