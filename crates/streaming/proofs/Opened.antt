-- The opening of a tape, and the commands behind it. Assumes nothing.
use Rattle.std.proofs.Common.{◌≡◌, ℕ, ◌+◌, ◌≤◌, ◌<◌, Bool, true, List, [], ◌++◌, length, sym, ap, ◌∙◌, subst, inl, inr, true≢false, arith, length-append}
use Rattle.std.proofs.lemmas.Bool.Decides.{nat_tests}
use Rattle.layout.specs.Layout.{sound, Opened as Holds}
use Rattle.metadata.specs.Answers.{is_applied}
use Rattle.metadata.specs.Model.{Outcome}
use Rattle.metadata.specs.declared.Answer.{Answer}
use Rattle.streaming.specs.Whole.{OpeningRead}
use Rattle.input.specs.Filled.{Grown}
use Rattle.laws.specs.Bytes.{byte_at}
use Rattle.metadata.specs.Rooms.{table_room}
use Rattle.reading.proofs.Accepted.{applied}
use Rattle.reading.specs.Places.{Opened}
use Rattle.std.specs.Prelude.{◌⊎◌, Option, Result, Ok, Err, IsErr, OnOk}
use Rattle.std.specs.Io.KnownBytes.{Consumes, IsAtEnd}
use Rattle.std.proofs.KnownBytes.{Consumes-trans}
use lib.ListN.{get_or-append}
use Rattle.reading.specs.Reader.{open_tape, body_at}

-- an accepted opening is there whole
pub accepted_inside : (l : List ℕ) → is_applied (open_tape l).answer ≡ true → body_at l ≤ length l
unfolding open_tape
accepted_inside l e = grind (arith, nat_tests)

pub opened_inside : (l : List ℕ) (a : Answer) (s : List ℕ) (b : Bool) (at : ℕ) → Holds (open_tape l) a s → b ≡ is_applied a → b ≡ true → at ≡ body_at l → at ≤ length l
opened_inside l a s b at q p e f = omega (arith, f, accepted_inside l (applied l a s b q p e))

-- the store that an opening leaves is sound
pub opened_sound : (o : Outcome) (a : Answer) (s : List ℕ) → Holds o a s → sound s ≡ true
opened_sound o a s q = q.sounds

-- ---- the opening is read: nothing was at hand, h is at hand when the head was asked for

module _ {V E : Type 0} (old h : List ℕ) (unread mid : Option (List ℕ)) (r : Result V E) (none : old ≡ []) (k : Grown old h unread mid 9 r) where
  all_read : Consumes unread mid h
  all_read = subst (Consumes unread mid) (sym (k.bytes ∙ ap (λ (x : List ℕ). x ++ k.more) none)) k.read

  pub opening_failed : {V' E' : Type 0} (r' : Result V' E') → IsErr r' → OpeningRead h unread mid r'
  opening_failed {V'} {E'} r' e = record { read = all_read; enough = go r' e }
    where
      go : (x : Result V' E') → IsErr x → OnOk x (Opened h ⊎ IsAtEnd mid)
      go (Ok y) g = absurd (true≢false (sym g))
      go (Err y) g = tt

  module _ (v : V) (q : r ≡ Ok v) where
    pub opening_ended : {V' E' : Type 0} (v' : V') → length h < 9 → OpeningRead {V = V'} {E = E'} h unread mid (Ok v')
    opening_ended v' n = record { read = all_read; enough = go (subst (λ (x : Result V E). OnOk x ((9 ≤ length h) ⊎ IsAtEnd mid)) q k.enough) }
      where
        go : (9 ≤ length h) ⊎ IsAtEnd mid → Opened h ⊎ IsAtEnd mid
        go (inl m) = absurd (omega arith)
        go (inr e) = inr e

    pub opening_refused : {V' E' : Type 0} (v' : V') → 9 ≤ length h → table_room < byte_at h 0 → OpeningRead {V = V'} {E = E'} h unread mid (Ok v')
    opening_refused v' n m = record { read = all_read; enough = inl (record { head = n; whole = inl m }) }

    pub opening_whole : {V' E' : Type 0} (body : ℕ) (now : List ℕ) (after : Option (List ℕ)) (r' : Result V' E') → 9 ≤ length h → body ≡ body_at h → Grown h now mid after body r' → OpeningRead now unread after r'
    opening_whole {V'} {E'} body now after r' n b g =
        record {
          read = subst (Consumes unread after) (sym g.bytes) (Consumes-trans unread mid after h g.more all_read g.read);
          enough = go r' g.enough;
        }
      where
        long : length now ≡ length h + length g.more
        long = ap length g.bytes ∙ length-append h g.more

        count : byte_at now 0 ≡ byte_at h 0
        count = ap (λ (x : List ℕ). byte_at x 0) g.bytes ∙ get_or-append h g.more 0 0 (omega arith)

        go : (x : Result V' E') → OnOk x ((body ≤ length now) ⊎ IsAtEnd after) → OnOk x (Opened now ⊎ IsAtEnd after)
        go (Err y) e = tt
        go (Ok y) (inl m) = inl (record { head = omega (arith, long); whole = inr (omega (arith, b, count)) })
        go (Ok y) (inr e) = inr e

pub ruleset opening = (opening_failed, opening_ended, opening_refused, opening_whole)
