-- A block of zeros is sound, and is the store of a refused opening: no name, no rows, the marks zero; and what it answers. Assumes nothing.
use Rattle.std.specs.Prelude.{◌≡◌, ℕ, ◌+◌, ◌*◌, ◌≤◌, true, List, [], map, replicate}
use Rattle.std.proofs.Common.{refl, ap, ◌∙◌, arith, eq-eqb}
use Rattle.std.proofs.lemmas.List.{length-replicate}
use Rattle.laws.specs.Bytes.{little, field_at}
use Rattle.laws.proofs.Tests.{all_of_lem}
use Rattle.tables.specs.Rows.{rows_of, tidy}
use Rattle.tables.proofs.Empty.{zero_part, zero_rows, zero_tidy}
use Rattle.encode.specs.Encode.{name_row, marks_at}
use Rattle.rows.specs.Rows.{node_row, table_row, tablet_row, placement_row, retirement_row}
use Rattle.encode.specs.Widths.{node_width, table_width, tablet_width, placement_width, retirement_width}
use Rattle.metadata.specs.Rooms.{node_room, table_room, tablet_room, retirement_room}
use Rattle.metadata.specs.Texts.{Name, no_name}
use Rattle.metadata.specs.Opening.{empty_rows, no_marks, refused_rows}
use Rattle.metadata.specs.Sound.{sound_rows}
use Rattle.metadata.specs.declared.Command.{Command}
use Rattle.metadata.specs.declared.Command.TheVariants.{Naming as naming}
use Rattle.metadata.specs.Commands.{faults, naming_faults, lowest, needs_name}
use Rattle.metadata.specs.Answers.{and_then, answer_if}
use Rattle.metadata.specs.Nodes.{judge_naming}
use Rattle.metadata.specs.Model.{StoreRows, judge, admission, decided, decide}
use Rattle.metadata.specs.declared.Answer.{Answer}
use Rattle.metadata.specs.declared.Answer.TheVariants as A
use Rattle.metadata.proofs.Opened.{refused_sound}
use Rattle.layout.specs.Layout.{directory_part, catalog_part, directory_of, catalog_of, store_of, name_of, marks_of, tidy_directory, tidy_catalog, sound}
use Rattle.layout.specs.Places.{
  name_length,
  nodes_place,
  nodes_length,
  directory_length,
  tables_length,
  tablets_place,
  tablets_length,
  placements_place,
  placements_length,
  retirements_place,
  retirements_length,
  marks_place,
  marks_length,
  catalog_length,
  store_length,
}

name_zero : name_row (replicate name_length 0) ≡ no_name
name_zero = refl

marks_zero : marks_at (replicate marks_length 0) ≡ no_marks
unfolding little
marks_zero = refl

-- a table of zeros within a part of zeros
module _ {A : Type 0} (f : List ℕ → A) (w room n at m : ℕ) (h : at + n ≤ m) where
  no_rows : 8 ≤ n → map f (rows_of w room (field_at n (replicate m 0) at)) ≡ []
  no_rows k = ap (λ (t : List ℕ). map f (rows_of w room t)) (zero_part n at m h) ∙ ap (map f) (zero_rows w room n k)

  no_padding : n ≡ 8 + room * w → tidy w room (field_at n (replicate m 0) at) ≡ true
  no_padding k = ap (tidy w room) (zero_part n at m h ∙ ap (λ (i : ℕ). replicate i 0) k) ∙ zero_tidy w room

zero_directory : directory_of (replicate directory_length 0) ≡ refused_rows.directory
unfolding name_of
zero_directory =
    let name : name_of (replicate directory_length 0) ≡ no_name = ap name_row (zero_part name_length 0 directory_length (omega arith)) ∙ name_zero in
    let nodes = no_rows node_row node_width node_room nodes_length nodes_place directory_length (omega arith) (omega arith) in
    λ i. record { name = name i; nodes = nodes i }

zero_catalog : catalog_of (replicate catalog_length 0) ≡ refused_rows.catalog
unfolding marks_of
zero_catalog =
    let tables = no_rows table_row table_width table_room tables_length 0 catalog_length (omega arith) (omega arith) in
    let tablets = no_rows tablet_row tablet_width tablet_room tablets_length tablets_place catalog_length (omega arith) (omega arith) in
    let placements = no_rows placement_row placement_width tablet_room placements_length placements_place catalog_length (omega arith) (omega arith) in
    let retirements = no_rows retirement_row retirement_width retirement_room retirements_length retirements_place catalog_length (omega arith) (omega arith) in
    let marks : marks_of (replicate catalog_length 0) ≡ no_marks = ap marks_at (zero_part marks_length marks_place catalog_length (omega arith)) ∙ marks_zero in
    λ i. record { tables = tables i; tablets = tablets i; placements = placements i; retirements = retirements i; marks = marks i }

directory_tidy : tidy_directory (replicate directory_length 0) ≡ true
unfolding tidy_directory
directory_tidy = no_padding node_row node_width node_room nodes_length nodes_place directory_length (omega arith) refl

catalog_tidy : tidy_catalog (replicate catalog_length 0) ≡ true
unfolding tidy_catalog
catalog_tidy =
    all_of_lem _ (
      no_padding table_row table_width table_room tables_length 0 catalog_length (omega arith) refl,
      (
        no_padding tablet_row tablet_width tablet_room tablets_length tablets_place catalog_length (omega arith) refl,
        (
          no_padding placement_row placement_width tablet_room placements_length placements_place catalog_length (omega arith) refl,
          (no_padding retirement_row retirement_width retirement_room retirements_length retirements_place catalog_length (omega arith) refl, tt),
        ),
      ),
    )

abbrev zeros : List ℕ
zeros = replicate store_length 0

directory_zero : directory_part zeros ≡ replicate directory_length 0
directory_zero = zero_part directory_length 0 store_length (omega arith)

catalog_zero : catalog_part zeros ≡ replicate catalog_length 0
catalog_zero = zero_part catalog_length directory_length store_length (omega arith)

-- it holds no rows
pub zero_block : store_of (replicate store_length 0) ≡ empty_rows [] no_marks
unfolding store_of
zero_block =
    let d = ap directory_of directory_zero ∙ zero_directory in
    let c = ap catalog_of catalog_zero ∙ zero_catalog in
    λ i. record { directory = d i; catalog = c i }

-- and is sound
pub zero_sound : sound (replicate store_length 0) ≡ true
unfolding sound
zero_sound =
    all_of_lem _ (
      eq-eqb _ _ (length-replicate {A = ℕ} store_length 0),
      (ap tidy_directory directory_zero ∙ directory_tidy, (ap tidy_catalog catalog_zero ∙ catalog_tidy, (ap sound_rows zero_block ∙ refused_sound, tt))),
    )

-- it answers as the store of a refused opening: without a name, all but naming and picking is refused
unnamed : (c : Command) (judged : Answer) → lowest (faults c) ≡ 0 → needs_name c ≡ true → decided no_name c judged ≡ A.NotInitialized
unfolding decided admission and_then answer_if
unnamed c judged h n = simp (h, n)

pub zero_registers : (c : Command) → lowest (faults c) ≡ 0 → needs_name c ≡ true → decide (store_of (replicate store_length 0)) c ≡ A.NotInitialized
zero_registers c h n = ap (λ (s : StoreRows). decide s c) zero_block ∙ unnamed c (judge refused_rows c) h n

named : (t : Name) → lowest (naming_faults t) ≡ 0 → decide refused_rows (naming t) ≡ A.Applied
unfolding decided admission and_then answer_if judge_naming
named t h = simp (h)

-- and an admitted name is given to it
pub zero_names : (t : Name) → lowest (faults (naming t)) ≡ 0 → decide (store_of (replicate store_length 0)) (naming t) ≡ A.Applied
zero_names t h = ap (λ (s : StoreRows). decide s (naming t)) zero_block ∙ named t h
