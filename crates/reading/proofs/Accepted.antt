-- The opening of a tape: what leads to it, and what an accepted one is. Assumes nothing.
use native.Mathlib.Omega.{arith}
use mathlib.Core.Path.{◌≡◌, refl, sym, ap, ◌∙◌}
use mathlib.Core.Bool.{Bool, true}
use mathlib.Core.List.{List}
use Prim.Native.Nat.{ℕ}
use lib.ListN.{replicate}
use Rattle.layout.specs.Layout.{store_of, sound, Opened}
use Rattle.layout.specs.Places.{store_length}
use Rattle.layout.proofs.Zero.{zero_block, zero_sound}
use Rattle.metadata.specs.Answers.{is_applied}
use Rattle.metadata.specs.Opening.{opening, refused_rows}
use Rattle.metadata.specs.declared.Answer.{Answer}
use Rattle.metadata.specs.declared.Answer.TheVariants as A
use Rattle.metadata.specs.declared.kinds.TapeFault.TheVariants as F
use Rattle.reading.specs.Reader.{cut_opening, tables_of, group_of, open_tape}

-- an accepted opening of a tape is the opening of its tables and its group mark
pub accepted : (l : List ℕ) → is_applied (open_tape l).answer ≡ true → opening (tables_of l) (group_of l) ≡ open_tape l
unfolding open_tape
accepted l e = grind arith

-- what the code has of the opening: whether it was accepted
pub applied : (l : List ℕ) (a : Answer) (block : List ℕ) (b : Bool) → Opened (open_tape l) a block → b ≡ is_applied a → b ≡ true → is_applied (open_tape l).answer ≡ true
applied l a block b q p e = ap is_applied (sym q.answer) ∙ sym p ∙ e

-- a block of zeros is what a refused opening leaves, under its own answer
without_rows : {b : List ℕ} (a : Answer) → b ≡ replicate store_length 0 → Opened (record { answer = a; rows = refused_rows }) a b
without_rows a q = record { answer = refl; rows = ap store_of q ∙ zero_block; sounds = ap sound q ∙ zero_sound }

-- one that is cut short
pub cut : {b : List ℕ} → b ≡ replicate store_length 0 → Opened cut_opening (A.BadTape F.Cut 0) b
cut q = without_rows (A.BadTape F.Cut 0) q

-- one with more tables than there is room for
pub over : {a : Answer} {b : List ℕ} → a ≡ A.InvalidCommand 10 → b ≡ replicate store_length 0 → Opened (record { answer = A.InvalidCommand 10; rows = refused_rows }) a b
over p q = rw p (without_rows (A.InvalidCommand 10) q)
