-- Commands by their places: in a longer tape, and of two tapes one behind the other. Assumes nothing.
use Prim.Native.Nat.{ℕ, ◌+◌, ◌≤◌, ◌<◌}
use native.Mathlib.Omega.{arith}
use mathlib.Core.Path.{◌≡◌, refl, sym, ap, ap₂, ◌∙◌, subst}
use mathlib.Core.Bool.{Bool, true, false, cond}
use mathlib.Core.List.{List, [], ◌∷◌, ◌++◌, append_assoc, append-nil}
use lib.Dec.{eqb}
use lib.ListN.{length, take, drop, get_or, length-append, length-drop, take-append-drop, get_or-append}
use lib.Seq.{get_or-append-add, get_or-drop, drop-append-add, drop-append-le, take-append-le, length-take-le}
use borrow.Author.Tests.{le-leb, lt-leb}
use Rattle.std.proofs.lemmas.Bool.Decides.{nat_tests}
use Rattle.laws.specs.Bytes.{number_at, byte_at}
use Rattle.decode.proofs.Same.{byte_same, number_same, text_same, node_same, tablet_same, placement_same, retirement_same}
use Rattle.decode.specs.Decode.{name_at, node_at, tablet_at, placement_at, retirement_at}
use Rattle.metadata.specs.declared.Command.{Command}
use Rattle.metadata.specs.declared.Command.TheVariants.{Naming as naming, Registering as registering, Lifecycle as lifecycle, Tablet as tablet, Placement as placement, Retirement as retirement, Picking as picking}
use Rattle.reading.specs.declared.Next.{Next}
use Rattle.reading.specs.declared.Next.TheVariants as N
use Rattle.reading.specs.Reader.{Reading, then, is_command, size_of, command_at, next_at, read_from}
use Rattle.reading.specs.Places.{Stands, none, one, is_whole, is_unknown, stop_of}
use Rattle.reading.proofs.Reading.{whole, next_end, read_end, read_unknown, read_cut, read_whole}

never : (b : Bool) → b ≡ true → b ≡ false → ⊥
never b e f = let z : ◌≡◌ {A = ℕ} 0 1 = cc in omega arith

-- ---- what stands at a place, read backwards

-- a byte that is no command
record Strange (l : List ℕ) (at b : ℕ) : Type 0 where
  inside : at < length l
  byte : byte_at l at ≡ b
  other : is_command b ≡ false

-- a command whose operands are not all there
record Short (l : List ℕ) (at b : ℕ) : Type 0 where
  inside : at < length l
  byte : byte_at l at ≡ b
  known : is_command b ≡ true
  short : length l < (at + 1) + size_of b

strange : (l : List ℕ) (at b : ℕ) → next_at l at ≡ N.Unknown b → Strange l at b
unfolding next_at
strange l at b h = grind (arith, nat_tests)

short : (l : List ℕ) (at b : ℕ) → next_at l at ≡ N.Cut b → Short l at b
unfolding next_at
short l at b h = grind (arith, nat_tests)

over : (l : List ℕ) (at : ℕ) → next_at l at ≡ N.End → length l ≤ at
unfolding next_at
over l at h = grind (arith, nat_tests)

whole_byte : (l : List ℕ) (at b m : ℕ) → next_at l at ≡ N.Whole b m → byte_at l at ≡ b
unfolding next_at
whole_byte l at b m h = grind (arith, nat_tests)

-- ---- and forwards

next_unknown : (l : List ℕ) (at b : ℕ) → at < length l → byte_at l at ≡ b → is_command b ≡ false → next_at l at ≡ N.Unknown b
unfolding next_at
next_unknown l at b h p e = rw (lt-leb (length l) at h, p, e)

next_cut : (l : List ℕ) (at b : ℕ) → at < length l → byte_at l at ≡ b → is_command b ≡ true → length l < (at + 1) + size_of b → next_at l at ≡ N.Cut b
unfolding next_at
next_cut l at b h p e f = rw (lt-leb (length l) at h, p, e, lt-leb ((at + 1) + size_of b) (length l) f)

next_whole : (l : List ℕ) (at b : ℕ) → at < length l → byte_at l at ≡ b → is_command b ≡ true → (at + 1) + size_of b ≤ length l → next_at l at ≡ N.Whole b ((at + 1) + size_of b)
unfolding next_at
next_whole l at b h p e f = rw (lt-leb (length l) at h, p, e, le-leb ((at + 1) + size_of b) (length l) f)

-- ---- a command is the same where the same operands stand

module _ (b : ℕ) (l : List ℕ) (p : ℕ) (m : List ℕ) (q : ℕ) where
  pub command_same : take (size_of b) (drop p l) ≡ take (size_of b) (drop q m) → command_at b l p ≡ command_at b m q
  unfolding command_at size_of
  command_same = go (eqb b 1) (eqb b 2) (eqb b 3) (eqb b 4) (eqb b 5) (eqb b 6)
    where
      size : Bool → Bool → Bool → Bool → Bool → Bool → ℕ
      size t u v w x y = cond t 49 (cond u 305 (cond v 9 (cond w 107 (cond x 234 (cond y 48 0)))))

      command : Bool → Bool → Bool → Bool → Bool → Bool → List ℕ → ℕ → Command
      command t u v w x y k i =
          cond t (naming (name_at k i))
          (cond u (registering (node_at k i))
          (cond v (lifecycle (record { 0 = number_at 8 k i }) (byte_at k (i + 8)))
          (cond w (tablet (tablet_at k i)) (cond x (placement (placement_at k i)) (cond y (retirement (retirement_at k i)) picking)))))

      go : (t u v w x y : Bool) → take (size t u v w x y) (drop p l) ≡ take (size t u v w x y) (drop q m) → command t u v w x y l p ≡ command t u v w x y m q
      go true u v w x y e = ap naming (text_same 49 l p m q e p q 0 (omega arith) (omega arith) (omega arith))
      go false true v w x y e = ap registering (node_same l p m q e)
      go false false true w x y e =
          ap₂ (λ (i k : ℕ). lifecycle (record { 0 = i }) k) (number_same 9 l p m q e 8 p q 0 (omega arith) (omega arith) (omega arith))
          (byte_same 9 l p m q e (p + 8) (q + 8) 8 refl refl (omega arith))
      go false false false true x y e = ap tablet (tablet_same l p m q e)
      go false false false false true y e = ap placement (placement_same l p m q e)
      go false false false false false true e = ap retirement (retirement_same l p m q e)
      go false false false false false false e = refl

-- ---- commands that stand from a place on

pub stands_join : {l : List ℕ} {a b c : ℕ} {cs ds : List Command} → Stands l a cs b → Stands l b ds c → Stands l a (cs ++ ds) c
stands_join none t = t
stands_join (one e s) t = one e (stands_join s t)

pub stands_last : {l : List ℕ} {a at b m : ℕ} {cs : List Command} → Stands l a cs at → next_at l at ≡ N.Whole b m → Stands l a (cs ++ command_at b l (at + 1) ∷ []) m
stands_last s e = stands_join s (one e none)

-- what stands from the first place on is those commands, and then what stands behind them
pub stands_read : {l : List ℕ} {a e : ℕ} {cs : List Command} → Stands l a cs e → read_from l a ≡ record { commands = cs ++ (read_from l e).commands; stop = (read_from l e).stop }
stands_read none = refl
stands_read {l} (one {at = at} {b = b} {m = m} q s) = read_whole l at b m q ∙ ap (then (command_at b l (at + 1))) (stands_read s)

pub stands_inside : {l : List ℕ} {a e : ℕ} {cs : List Command} → Stands l a cs e → a ≤ length l → e ≤ length l
stands_inside none h = h
stands_inside {l} (one {at = at} {b = b} {m = m} q s) h = stands_inside s (whole l at b m q).fits

-- where no whole command stands, what is left is the last answer
pub read_none : (l : List ℕ) (at : ℕ) → is_whole (next_at l at) ≡ false → read_from l at ≡ record { commands = []; stop = stop_of (next_at l at) }
read_none l at h = go (next_at l at) refl h
  where
    go : (x : Next) → next_at l at ≡ x → is_whole x ≡ false → read_from l at ≡ record { commands = []; stop = stop_of x }
    go N.End e f = read_end l at e
    go (N.Unknown b) e f = read_unknown l at b e
    go (N.Cut b) e f = read_cut l at b e
    go (N.Whole b m) e f = absurd (never true refl f)

-- commands, and behind them what is no whole command: that is all that the tape holds
pub stands_all : {l : List ℕ} {a e : ℕ} {cs : List Command} → Stands l a cs e → is_whole (next_at l e) ≡ false → read_from l a ≡ record { commands = cs; stop = stop_of (next_at l e) }
stands_all {l} {a} {e} {cs} s h =
    stands_read s ∙ ap (λ (r : Reading). record { commands = cs ++ r.commands; stop = r.stop }) (read_none l e h)
    ∙ ap (λ (x : List Command). record { commands = x; stop = stop_of (next_at l e) }) (append-nil cs)

-- ---- a longer tape: t stands in front of l, and r behind it

module _ (t l r : List ℕ) where
  wide_long : length (t ++ (l ++ r)) ≡ length t + (length l + length r)
  wide_long = length-append t (l ++ r) ∙ ap (λ (k : ℕ). length t + k) (length-append l r)

  byte_in : (at : ℕ) → at < length l → byte_at (t ++ (l ++ r)) (length t + at) ≡ byte_at l at
  byte_in at h = get_or-append-add t (l ++ r) at 0 ∙ get_or-append l r 0 at h

  bytes_in : (n at : ℕ) → at + n ≤ length l → take n (drop (length t + at) (t ++ (l ++ r))) ≡ take n (drop at l)
  bytes_in n at h =
      ap (take n) (drop-append-add t (l ++ r) at ∙ drop-append-le at l r (omega arith))
      ∙ take-append-le n (drop at l) r (omega (arith, length-drop at l))

  -- a whole command stays one, and so does a byte that is no command
  whole_in : (at b m : ℕ) → next_at l at ≡ N.Whole b m → next_at (t ++ (l ++ r)) (length t + at) ≡ N.Whole b (length t + m)
  whole_in at b m e =
      let w = whole l at b m e in
      let z : ((length t + at) + 1) + size_of b ≡ length t + m = omega (arith, w.next) in
      next_whole (t ++ (l ++ r)) (length t + at) b (omega (arith, wide_long, w.inside)) (byte_in at w.inside ∙ whole_byte l at b m e) w.known (omega (arith, wide_long, w.fits, z))
      ∙ ap (N.Whole b) z

  pub unknown_in : (at b : ℕ) → next_at l at ≡ N.Unknown b → next_at (t ++ (l ++ r)) (length t + at) ≡ N.Unknown b
  unknown_in at b e =
      let w = strange l at b e in
      next_unknown (t ++ (l ++ r)) (length t + at) b (omega (arith, wide_long, w.inside)) (byte_in at w.inside ∙ w.byte) w.other

  pub stands_in : {a e : ℕ} {cs : List Command} → Stands l a cs e → Stands (t ++ (l ++ r)) (length t + a) cs (length t + e)
  stands_in none = none
  stands_in (one {at = at} {b = b} {m = m} {cs = cs} {e = e} q s) =
      let w = whole l at b m q in
      let z : (length t + at) + 1 ≡ length t + (at + 1) = omega arith in
      subst (λ (c : Command). Stands (t ++ (l ++ r)) (length t + at) (c ∷ cs) (length t + e))
      (ap (command_at b (t ++ (l ++ r))) z ∙ command_same b (t ++ (l ++ r)) (length t + (at + 1)) l (at + 1) (bytes_in (size_of b) (at + 1) (omega (arith, w.next, w.fits))))
      (one (whole_in at b m q) (stands_in s))

-- bytes behind, and bytes in front
pub stands_more : (l r : List ℕ) {a e : ℕ} {cs : List Command} → Stands l a cs e → Stands (l ++ r) a cs e
stands_more l r {a} {e} {cs} s =
    let p : length {A = ℕ} [] + a ≡ a = omega arith in
    let q : length {A = ℕ} [] + e ≡ e = omega arith in
    subst (λ (k : ℕ). Stands (l ++ r) k cs e) p (subst (λ (k : ℕ). Stands (l ++ r) (length {A = ℕ} [] + a) cs k) q (stands_in [] l r s))

pub stands_behind : (t l : List ℕ) {a e : ℕ} {cs : List Command} → Stands l a cs e → Stands (t ++ l) (length t + a) cs (length t + e)
stands_behind t l {a} {e} {cs} s = subst (λ (x : List ℕ). Stands (t ++ x) (length t + a) cs (length t + e)) (append-nil l) (stands_in t l [] s)

-- what is no whole command, with nothing behind it, is the same behind other bytes
pub next_behind : (t l : List ℕ) (at : ℕ) → is_whole (next_at l at) ≡ false → next_at (t ++ l) (length t + at) ≡ next_at l at
next_behind t l at h = go (next_at l at) refl h
  where
    long : length (t ++ l) ≡ length t + length l
    long = length-append t l

    byte : byte_at (t ++ l) (length t + at) ≡ byte_at l at
    byte = get_or-append-add t l at 0

    go : (x : Next) → next_at l at ≡ x → is_whole x ≡ false → next_at (t ++ l) (length t + at) ≡ x
    go N.End e f = sym (next_end (t ++ l) (length t + at) (omega (arith, long, over l at e)))
    go (N.Unknown b) e f = let w = strange l at b e in next_unknown (t ++ l) (length t + at) b (omega (arith, long, w.inside)) (byte ∙ w.byte) w.other
    go (N.Cut b) e f = let w = short l at b e in next_cut (t ++ l) (length t + at) b (omega (arith, long, w.inside)) (byte ∙ w.byte) w.known (omega (arith, long, w.short))
    go (N.Whole b m) e f = absurd (never true refl f)

-- what stands at a place, where it is no whole command, is what stands at the start of the bytes from there on
module _ (l : List ℕ) (p : ℕ) where
  pub next_back : p ≤ length l → is_whole (next_at (drop p l) 0) ≡ false → next_at l p ≡ next_at (drop p l) 0
  next_back h f =
      let z : length (take p l) + 0 ≡ p = omega (arith, length-take-le p l h) in
      ap₂ next_at (sym (take-append-drop p l)) (sym z) ∙ next_behind (take p l) (drop p l) 0 f

  pub next_drop : is_whole (next_at l p) ≡ false → next_at (drop p l) 0 ≡ next_at l p
  next_drop h = go (next_at l p) refl h
    where
      z : p + 0 ≡ p
      z = omega arith

      byte : byte_at (drop p l) 0 ≡ byte_at l p
      byte = get_or-drop p l 0 0 ∙ ap (λ (k : ℕ). get_or l k 0) z

      go : (x : Next) → next_at l p ≡ x → is_whole x ≡ false → next_at (drop p l) 0 ≡ x
      go N.End e f = sym (next_end (drop p l) 0 (omega (arith, length-drop p l, over l p e)))
      go (N.Unknown b) e f = let w = strange l p b e in next_unknown (drop p l) 0 b (omega (arith, length-drop p l, w.inside)) (byte ∙ w.byte) w.other
      go (N.Cut b) e f =
          let w = short l p b e in
          next_cut (drop p l) 0 b (omega (arith, length-drop p l, w.inside)) (byte ∙ w.byte) w.known (omega (arith, length-drop p l, w.short, w.inside))
      go (N.Whole b m) e f = absurd (never true refl f)

-- ---- two stretches: the first commands of l, and then those of what is left of it followed by more bytes, are those of l ++ m
pub chunks_join : (l m : List ℕ) {a e f : ℕ} {cs ds : List Command} → e ≤ length l → Stands l a cs e → Stands (drop e l ++ m) 0 ds f → Stands (l ++ m) a (cs ++ ds) (e + f)
chunks_join l m {a} {e} {f} {cs} {ds} h s d =
    let p : length (take e l) ≡ e = length-take-le e l h in
    let q : take e l ++ (drop e l ++ m) ≡ l ++ m = sym (append_assoc (take e l) (drop e l) m) ∙ ap (λ (x : List ℕ). x ++ m) (take-append-drop e l) in
    let z : length (take e l) + 0 ≡ e = omega (arith, p) in
    let d1 : Stands (take e l ++ (drop e l ++ m)) (length (take e l) + 0) ds (length (take e l) + f) = stands_behind (take e l) (drop e l ++ m) d in
    let d2 : Stands (take e l ++ (drop e l ++ m)) e ds (length (take e l) + f) = subst (λ (k : ℕ). Stands (take e l ++ (drop e l ++ m)) k ds (length (take e l) + f)) z d1 in
    let d3 : Stands (take e l ++ (drop e l ++ m)) e ds (e + f) = subst (λ (k : ℕ). Stands (take e l ++ (drop e l ++ m)) e ds (k + f)) p d2 in
    stands_join (stands_more l m s) (subst (λ (x : List ℕ). Stands x e ds (e + f)) q d3)

-- ---- what is no whole command is shorter than a command

size_most : (b : ℕ) → size_of b ≤ 305
unfolding size_of
size_most b = go (eqb b 1) (eqb b 2) (eqb b 3) (eqb b 4) (eqb b 5) (eqb b 6)
  where
    go : (t u v w x y : Bool) → cond t 49 (cond u 305 (cond v 9 (cond w 107 (cond x 234 (cond y 48 0))))) ≤ 305
    go true u v w x y = omega arith
    go false true v w x y = omega arith
    go false false true w x y = omega arith
    go false false false true x y = omega arith
    go false false false false true y = omega arith
    go false false false false false true = omega arith
    go false false false false false false = omega arith

pub rest_short : (l : List ℕ) → is_whole (next_at l 0) ≡ false → is_unknown (next_at l 0) ≡ false → length l ≤ 305
rest_short l h g = go (next_at l 0) refl h g
  where
    go : (x : Next) → next_at l 0 ≡ x → is_whole x ≡ false → is_unknown x ≡ false → length l ≤ 305
    go N.End e f u = omega (arith, over l 0 e)
    go (N.Unknown b) e f u = absurd (never true refl u)
    go (N.Cut b) e f u = let w = short l 0 b e in omega (arith, w.short, size_most b)
    go (N.Whole b m) e f u = absurd (never true refl f)
