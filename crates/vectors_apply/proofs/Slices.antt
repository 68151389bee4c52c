-- A command's bytes by themselves. Assumes nothing.
use Rattle.std.proofs.Common.{◌≡◌, ℕ, ◌+◌, ◌-◌, ◌≤◌, ◌<◌, true, false, List, [], ◌∷◌, length, take, drop, get_or, sym, ap, ap₂, ◌∙◌, arith, le-leb, take_all, length-take-le, length-drop, drop-drop}
use Rattle.std.proofs.lemmas.List.{drop-take, length-take, get_or-drop, get_or-take}
use Rattle.std.proofs.lemmas.Bool.{lt-leb}
use Rattle.std.proofs.lemmas.Bool.Decides.{nat_tests}
use Rattle.laws.specs.Bytes.{byte_at}
use Rattle.metadata.specs.declared.Command.{Command}
use Rattle.reading.proofs.Places.{command_same, stands_all, next_drop, read_none}
use Rattle.reading.proofs.Reading.{whole, next_end}
use Rattle.reading.specs.Places.{none, one, is_whole, stop_of}
use Rattle.reading.specs.Reader.{is_command, size_of, command_at, next_at, read_from}
use Rattle.reading.specs.declared.Next.{Next}
use Rattle.reading.specs.declared.Next.TheVariants as N

byte_there : (l : List ℕ) (at b m : ℕ) → next_at l at ≡ N.Whole b m → byte_at l at ≡ b
unfolding next_at
byte_there l at b m h = grind (arith, nat_tests)

next_whole : (l : List ℕ) (b : ℕ) → 0 < length l → byte_at l 0 ≡ b → is_command b ≡ true → (0 + 1) + size_of b ≤ length l → next_at l 0 ≡ N.Whole b ((0 + 1) + size_of b)
unfolding next_at
next_whole l b h p e f = rw (lt-leb (length l) 0 h, p, e, le-leb ((0 + 1) + size_of b) (length l) f)

-- the whole command at a place
module _ (l : List ℕ) (at b m : ℕ) (e : next_at l at ≡ N.Whole b m) where
  abbrev part : List ℕ
  part = take (m - at) (drop at l)

  part_long : length part ≡ m - at
  part_long = let w = whole l at b m e in length-take-le (m - at) (drop at l) (omega (arith, length-drop at l, w.fits))

  pub one_read : read_from (take (m - at) (drop at l)) 0 ≡ record { commands = command_at b l (at + 1) ∷ []; stop = [] }
  one_read =
      let w = whole l at b m e in
      let n : m - at ≡ 1 + size_of b = omega (arith, w.next) in
      let z : at + 0 ≡ at = omega arith in
      let p : byte_at part 0 ≡ b = get_or-take (m - at) (drop at l) 0 0 (omega (arith, n)) ∙ get_or-drop at l 0 0 ∙ ap (λ (i : ℕ). get_or l i 0) z ∙ byte_there l at b m e in
      let rest : drop 1 part ≡ take (size_of b) (drop (at + 1) l) =
      ap (λ (i : ℕ). drop 1 (take i (drop at l))) n ∙ drop-take 1 (size_of b) (drop at l) ∙ ap (take (size_of b)) (drop-drop 1 at l) in
      let q : next_at part 0 ≡ N.Whole b ((0 + 1) + size_of b) = next_whole part b (omega (arith, part_long, w.next)) p w.known (omega (arith, part_long, w.next)) in
      let same : command_at b part (0 + 1) ≡ command_at b l (at + 1) =
      command_same b part (0 + 1) l (at + 1) (ap (take (size_of b)) rest ∙ take_all (size_of b) (take (size_of b) (drop (at + 1) l)) (omega (arith, length-take (size_of b) (drop (at + 1) l)))) in
      let last : N.End ≡ next_at part ((0 + 1) + size_of b) = next_end part ((0 + 1) + size_of b) (omega (arith, part_long, w.next)) in
      stands_all (one q none) (ap is_whole (sym last)) ∙ ap₂ (λ (c : Command) (x : Next). record { commands = c ∷ []; stop = stop_of x }) same (sym last)

-- what is no whole command, and all behind it
pub rest_read : (l : List ℕ) (at : ℕ) → is_whole (next_at l at) ≡ false → read_from (drop at l) 0 ≡ record { commands = []; stop = stop_of (next_at l at) }
rest_read l at n =
    let z : next_at (drop at l) 0 ≡ next_at l at = next_drop l at n in
    read_none (drop at l) 0 (ap is_whole z ∙ n) ∙ ap (λ (x : Next). record { commands = []; stop = stop_of x }) z

-- ---- the places are within the tape

strange : (l : List ℕ) (at b : ℕ) → next_at l at ≡ N.Unknown b → at ≤ length l
unfolding next_at
strange l at b h = grind (arith, nat_tests)

short : (l : List ℕ) (at b : ℕ) → next_at l at ≡ N.Cut b → at ≤ length l
unfolding next_at
short l at b h = grind (arith, nat_tests)

module _ (l : List ℕ) (at : ℕ) (x : Next) (q : x ≡ next_at l at) where
  pub whole_starts : (b m : ℕ) → x ≡ N.Whole b m → at ≤ m
  whole_starts b m e = let w = whole l at b m (sym q ∙ e) in omega (arith, w.next)

  pub whole_ends : (b m : ℕ) → x ≡ N.Whole b m → m ≤ length l
  whole_ends b m e = let w = whole l at b m (sym q ∙ e) in w.fits

  pub unknown_starts : (b : ℕ) → x ≡ N.Unknown b → at ≤ length l
  unknown_starts b e = strange l at b (sym q ∙ e)

  pub cut_starts : (b : ℕ) → x ≡ N.Cut b → at ≤ length l
  cut_starts b e = short l at b (sym q ∙ e)
