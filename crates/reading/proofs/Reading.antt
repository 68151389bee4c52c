-- A tape read command by command. Assumes nothing.
use Prim.Native.Nat.{ℕ, zero, suc, ◌+◌, ◌-◌, ◌≤◌, ◌<◌}
use native.Mathlib.Omega.{arith}
use mathlib.Core.Path.{◌≡◌, refl, sym, ap, ◌∙◌}
use mathlib.Core.Bool.{true}
use Rattle.std.proofs.Common.{◌⊎◌, inl, inr}
use Rattle.std.proofs.lemmas.Bool.Decides.{nat_tests}
use mathlib.Core.List.{List}
use lib.ListN.{length}
use borrow.Author.Tests.{le-leb}
use Rattle.metadata.specs.declared.Answer.TheVariants as A
use Rattle.metadata.specs.declared.kinds.TapeFault.TheVariants as F
use Rattle.reading.specs.declared.Next.{Next}
use Rattle.reading.specs.declared.Next.TheVariants as N
use Rattle.reading.specs.Reader.{Reading, ended, stopped, then, next_at, on_next, read, read_from, lines, is_command, size_of, command_at}

-- ---- what stands at a place

pub next_end : (l : List ℕ) (at : ℕ) → length l ≤ at → N.End ≡ next_at l at
unfolding next_at
next_end l at h = rw (le-leb (length l) at h)

-- ---- a whole command has its bytes

pub record Whole (l : List ℕ) (at b m : ℕ) : Type 0 where
  pub inside : at < length l
  pub known : is_command b ≡ true
  pub next : m ≡ (at + 1) + size_of b
  pub fits : m ≤ length l

pub whole : (l : List ℕ) (at b m : ℕ) → next_at l at ≡ N.Whole b m → Whole l at b m
unfolding next_at
whole l at b m h = grind (arith, nat_tests)

-- what whoever reads a whole command needs to know: its byte is there, it is a command, and its operands are there
module _ (l : List ℕ) (at b m : ℕ) (x : Next) (q : x ≡ next_at l at) (e : x ≡ N.Whole b m) where
  pub whole_inside : at < length l
  whole_inside = let w = whole l at b m (sym q ∙ e) in w.inside

  pub whole_known : is_command b ≡ true
  whole_known = let w = whole l at b m (sym q ∙ e) in w.known

  pub whole_fits : (at + 1) + size_of b ≤ length l
  whole_fits = let w = whole l at b m (sym q ∙ e) in rw (← w.next) w.fits

  -- the next place is further on
  pub whole_less : length l - m < length l - at
  whole_less = let w = whole l at b m (sym q ∙ e) in omega (arith, w.next, w.inside, w.fits)

-- for `using` on a function that reads a whole command: `count_lines` here, `run_commands` (tape_commands) and `run_chunk` (chunks) by their own rulesets
pub ruleset wholes = (whole_inside, whole_known, whole_fits, whole_less)

-- ---- any number of turns that is large enough

read_over : (n : ℕ) (l : List ℕ) (at : ℕ) → length l ≤ at → read n l at ≡ ended
unfolding read
read_over zero l at h = refl
read_over (suc n) l at h = rw (← next_end l at h)

read_enough : (n m : ℕ) (l : List ℕ) (at : ℕ) → length l - at ≤ n → length l - at ≤ m → read n l at ≡ read m l at
unfolding read
read_enough zero m l at h k = sym (read_over m l at (omega arith))
read_enough (suc n) zero l at h k = read_over (suc n) l at (omega arith)
read_enough (suc n) (suc m) l at h k =
    go (next_at l at) refl (λ b i e. let w = whole l at b i e in read_enough n m l i (omega (arith, w.next, w.inside)) (omega (arith, w.next, w.inside)))
  where
    go : (x : Next) → next_at l at ≡ x → ((b i : ℕ) → next_at l at ≡ N.Whole b i → read n l i ≡ read m l i) →
        on_next (next_at l at) (λ b i. then (command_at b l (at + 1)) (read n l i)) ≡ on_next (next_at l at) (λ b i. then (command_at b l (at + 1)) (read m l i))
    go N.End e f = rw e
    go (N.Unknown b) e f = rw e
    go (N.Cut b) e f = rw e
    go (N.Whole b i) e f = rw e (ap (then (command_at b l (at + 1))) (f b i e))

-- ---- counting the lines of what is left

pub record Counting (l : List ℕ) (at₀ at n : ℕ) : Type 0 where
  pub low : n ≤ at
  pub left : lines (read_from l at₀) ≡ n + lines (read_from l at)

-- ---- the whole of what is left, by what stands at the place

pub read_end : (l : List ℕ) (at : ℕ) → next_at l at ≡ N.End → read_from l at ≡ ended
unfolding read
read_end l at e = read_enough (length l - at) (suc (length l - at)) l at (omega arith) (omega arith) ∙ rw e

-- Two laws for the two ways in which a tape stops: each has its own answer.
pub read_unknown : (l : List ℕ) (at b : ℕ) → next_at l at ≡ N.Unknown b → read_from l at ≡ stopped (A.BadTape F.Unknown b)
unfolding read
read_unknown l at b e = read_enough (length l - at) (suc (length l - at)) l at (omega arith) (omega arith) ∙ rw e

pub read_cut : (l : List ℕ) (at b : ℕ) → next_at l at ≡ N.Cut b → read_from l at ≡ stopped (A.BadTape F.Cut b)
unfolding read
read_cut l at b e = read_enough (length l - at) (suc (length l - at)) l at (omega arith) (omega arith) ∙ rw e

pub read_whole : (l : List ℕ) (at b m : ℕ) → next_at l at ≡ N.Whole b m → read_from l at ≡ then (command_at b l (at + 1)) (read_from l m)
unfolding read
read_whole l at b m e =
    let w = whole l at b m e in
    read_enough (length l - at) (suc (length l - at)) l at (omega arith) (omega arith)
    ∙ rw e (ap (then (command_at b l (at + 1))) (read_enough (length l - at) (length l - m) l m (omega (arith, w.next, w.inside)) (omega arith)))

pub count_start : (l : List ℕ) (at : ℕ) → Counting l at at 0
count_start l at = record { low = omega arith; left = omega arith }

pub count_whole : (l : List ℕ) (at₀ at n b m : ℕ) (x : Next) → Counting l at₀ at n → x ≡ next_at l at → x ≡ N.Whole b m → Counting l at₀ m (n + 1)
count_whole l at₀ at n b m x c q e =
    let w = whole l at b m (sym q ∙ e) in
    record {
      low = omega (arith, w.next, c.low);
      left = c.left ∙ ap (λ (r : Reading). n + lines r) (read_whole l at b m (sym q ∙ e)) ∙ omega arith;
    }

-- the tape stops here: an unknown byte, or a command cut short
abbrev pub Stops : Next → Type 0
Stops x = ((b : ℕ) × x ≡ N.Unknown b) ⊎ ((b : ℕ) × x ≡ N.Cut b)

pub count_stopped : (l : List ℕ) (at₀ at n : ℕ) (x : Next) → Counting l at₀ at n → x ≡ next_at l at → Stops x → n + 1 ≡ lines (read_from l at₀)
count_stopped l at₀ at n x c q (inl (b, e)) = sym (c.left ∙ rw (read_unknown l at b (sym q ∙ e)))
count_stopped l at₀ at n x c q (inr (b, e)) = sym (c.left ∙ rw (read_cut l at b (sym q ∙ e)))

pub count_none : (l : List ℕ) (at₀ at n : ℕ) (x : Next) → Counting l at₀ at n → x ≡ next_at l at → x ≡ N.End → n ≡ lines (read_from l at₀)
count_none l at₀ at n x c q e = sym (c.left ∙ rw (read_end l at (sym q ∙ e)) (omega arith))

-- where the tape stops there is still a byte
pub stops_inside : (l : List ℕ) (at : ℕ) (x : Next) → x ≡ next_at l at → Stops x → at < length l
unfolding next_at
stops_inside l at x q s = grind (arith, nat_tests)
