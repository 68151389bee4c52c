-- More is read until there is enough. Assumes nothing.
use Rattle.std.proofs.Common.{◌≡◌, ℕ, zero, suc, ◌+◌, ◌-◌, ◌≤◌, ◌<◌, List, [], ◌++◌, length, take, drop, refl, sym, ap, ◌∙◌, subst, append_assoc, append-nil, true≢false, inl, inr, arith, length-append, length-take-le}
use Rattle.std.specs.Prelude.{◌⊎◌, Option, Result, Ok, Err, IfOk, IsErr, OnOk}
use Rattle.std.specs.Io.KnownBytes.{Consumes, IsAtEnd}
use Rattle.std.proofs.KnownBytes.{Consumes-nil, Consumes-trans}
use Rattle.input.specs.Buffers.{buffer_size}
use Rattle.input.specs.Filled.{Filled, Grown}

-- so far `more` was read behind `left`
pub record Growing (left now : List ℕ) (unread after : Option (List ℕ)) : Type 0 where
  pub more : List ℕ
  pub read : Consumes unread after more
  pub bytes : now ≡ left ++ more

pub grow_start : (left : List ℕ) (unread : Option (List ℕ)) → Growing left left unread unread
grow_start left unread = record { more = []; read = Consumes-nil unread; bytes = sym (append-nil left) }

module _ (left now : List ℕ) (unread after : Option (List ℕ)) (k : Growing left now unread after) where
  module _ {E : Type 0} (next : List ℕ) (later : Option (List ℕ)) (r : Result ℕ E) (f : Filled now next after later r) where
    pub grow_next : Growing left next unread later
    grow_next =
        record {
          more = k.more ++ f.more;
          read = Consumes-trans unread after later k.more f.more k.read f.read;
          bytes = f.bytes ∙ ap (λ (x : List ℕ). x ++ f.more) k.bytes ∙ append_assoc left k.more f.more;
        }

    came : (n : ℕ) → r ≡ Ok n → length next ≡ length now + n
    came n e =
        let z : n ≡ length f.more = subst (λ (x : Result ℕ E). IfOk x (λ m. m ≡ length f.more)) e f.came in
        ap length f.bytes ∙ length-append now f.more ∙ omega (arith, z)

    pub grow_ended : {V E' : Type 0} (v : V) (least n : ℕ) (h : List ℕ) → h ≡ now → length h < least → least ≤ buffer_size → r ≡ Ok n → n ≡ 0 → Grown {V = V} {E = E'} left next unread later least (Ok v)
    grow_ended v least n h i j g e z =
        record {
          more = grow_next.more;
          read = grow_next.read;
          bytes = grow_next.bytes;
          enough = inr (subst (λ (x : Result ℕ E). IfOk x (λ m. m ≡ 0 → length now < buffer_size → IsAtEnd later)) e f.ended z (omega (arith, ap length i)));
        }

    pub grow_less : (least n : ℕ) (h : List ℕ) → h ≡ now → length h < least → r ≡ Ok n → (n ≡ 0 → ⊥) → least - length next < least - length now
    grow_less least n h i j e z = omega (arith, came n e, more n z, ap length i)
      where
        more : (m : ℕ) → (m ≡ 0 → ⊥) → 0 < m
        more zero y = absurd (y refl)
        more (suc m) y = omega arith

    pub grow_failed : {V E' : Type 0} (least : ℕ) (r' : Result V E') → IsErr r' → Grown left next unread later least r'
    grow_failed {V} {E'} least r' e = record { more = grow_next.more; read = grow_next.read; bytes = grow_next.bytes; enough = none r' e }
      where
        none : (x : Result V E') → IsErr x → OnOk x ((least ≤ length next) ⊎ IsAtEnd later)
        none (Ok y) g = absurd (true≢false (sym g))
        none (Err y) g = tt

  pub grow_enough : {V E' : Type 0} (v : V) (least : ℕ) (h : List ℕ) → h ≡ now → least ≤ length h → Grown {V = V} {E = E'} left now unread after least (Ok v)
  grow_enough v least h e j = record { more = k.more; read = k.read; bytes = k.bytes; enough = inl (omega (arith, ap length e)) }

pub ruleset growing = (grow_start, grow_next, grow_ended, grow_failed, grow_enough, grow_less)
