-- More tables than there is room for are refused. Assumes nothing.
use Rattle.std.proofs.Common.{◌≡◌, ℕ, ◌<◌, ◌≤◌, Bool, true, false, List, length, refl, subst, arith}
use Rattle.std.proofs.lemmas.Bool.{leb-true}
use Rattle.laws.proofs.Tests.{each_of}
use Rattle.layout.specs.Layout.{Opened}
use Rattle.metadata.specs.Commands.{opening_admitted}
use Rattle.metadata.specs.Model.{Outcome}
use Rattle.metadata.specs.Opening.{opening, refused_rows}
use Rattle.metadata.specs.Rooms.{table_room}
use Rattle.metadata.specs.declared.Answer.{Answer}
use Rattle.metadata.specs.declared.Answer.TheVariants as A
use Rattle.metadata.specs.declared.TableRow.{TableRow}
use Rattle.metadata.specs.declared.kinds.TapeFault.TheVariants as F
use Rattle.reading.specs.Reader.{cut_opening}

few : (tables : List TableRow) → opening_admitted tables ≡ true → length tables ≤ table_room
unfolding opening_admitted
few tables e = leb-true _ _ (each_of _ e).0

module _ (tables : List TableRow) (group : ℕ) (h : table_room < length tables) where
  not_admitted : opening_admitted tables ≡ false
  not_admitted = go (opening_admitted tables) refl
    where
      go : (t : Bool) → opening_admitted tables ≡ t → t ≡ false
      go false e = refl
      go true e = absurd (omega (arith, few tables e))

  over : opening tables group ≡ record { answer = A.InvalidCommand 10; rows = refused_rows }
  unfolding opening
  over = rw not_admitted refl

  module _ (a : Answer) (s : List ℕ) (k : Opened (opening tables group) a s) where
    pub too_many : Opened (record { answer = A.InvalidCommand 10; rows = refused_rows }) a s
    too_many = subst (λ (o : Outcome). Opened o a s) over k

    -- what an opening that is cut short leaves
    pub cut_short : Opened cut_opening (A.BadTape F.Cut 0) s
    cut_short = record { answer = refl; rows = too_many.rows; sounds = too_many.sounds }
