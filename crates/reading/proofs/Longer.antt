-- The opening of a tape is that of a longer one, once so many bytes are there. Assumes nothing.
use Prim.Native.Nat.{ℕ, ◌+◌, ◌*◌, ◌≤◌, ◌<◌}
use native.Mathlib.Omega.{arith}
use mathlib.Core.Path.{◌≡◌, refl, ap, ◌∙◌}
use mathlib.Core.List.{List, ◌++◌}
use lib.ListN.{length, take, drop, length-append, get_or-append}
use lib.Seq.{take-append-le}
use borrow.Author.Tests.{lt-ltb, le-ltb}
use Rattle.std.proofs.Common.{◌⊎◌, inl, inr}
use Rattle.laws.specs.Bytes.{byte_at}
use Rattle.decode.proofs.Same.{number_same, list_same, table_same}
use Rattle.decode.specs.Decode.{list_at, table_at}
use Rattle.metadata.specs.Rooms.{table_room}
use Rattle.reading.specs.Places.{Opened}
use Rattle.reading.specs.Reader.{tables_of, group_of, body_at, open_tape}

module _ (l r : List ℕ) (k : Opened l) where
  long : length (l ++ r) ≡ length l + length r
  long = length-append l r

  pub count_longer : byte_at (l ++ r) 0 ≡ byte_at l 0
  count_longer = get_or-append l r 0 0 (omega (arith, k.head))

  pub body_longer : body_at (l ++ r) ≡ body_at l
  body_longer = ap (λ (n : ℕ). 9 + 12 * n) count_longer

  refused : table_room < byte_at l 0 → open_tape (l ++ r) ≡ open_tape l
  unfolding open_tape
  refused h = rw (count_longer, le-ltb (length (l ++ r)) 9 (omega (arith, long, k.head)), le-ltb (length l) 9 k.head, lt-ltb table_room (byte_at l 0) h)

  module _ (h : body_at l ≤ length l) where
    same : take (body_at l) (drop 0 (l ++ r)) ≡ take (body_at l) (drop 0 l)
    same = take-append-le (body_at l) l r h

    tables_longer : tables_of (l ++ r) ≡ tables_of l
    tables_longer =
        ap (λ (n : ℕ). list_at table_at 12 n (l ++ r) 9) count_longer
        ∙ list_same (body_at l) (l ++ r) 0 l 0 same table_at 12 (table_same (body_at l) (l ++ r) 0 l 0 same) (byte_at l 0) 9 9 9 refl refl (omega arith)

    group_longer : group_of (l ++ r) ≡ group_of l
    group_longer = number_same (body_at l) (l ++ r) 0 l 0 same 8 1 1 1 refl refl (omega arith)

    whole : open_tape (l ++ r) ≡ open_tape l
    unfolding open_tape
    whole =
        rw (
          tables_longer,
          group_longer,
          count_longer,
          le-ltb (length (l ++ r)) 9 (omega (arith, long, k.head)),
          le-ltb (length l) 9 k.head,
          le-ltb (length (l ++ r)) (9 + 12 * byte_at l 0) (omega (arith, long)),
          le-ltb (length l) (9 + 12 * byte_at l 0) h,
        )

  pub open_longer : open_tape (l ++ r) ≡ open_tape l
  open_longer = go k.whole
    where
      go : (table_room < byte_at l 0) ⊎ (body_at l ≤ length l) → open_tape (l ++ r) ≡ open_tape l
      go (inl h) = refused h
      go (inr h) = whole h
