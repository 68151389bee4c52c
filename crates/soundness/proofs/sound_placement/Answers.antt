use Rattle.std.proofs.Common.{refl, sym, ap, ◌∙◌, true, false}
use Rattle.rows.specs.Rows.{placement_row}
use Rattle.soundness.specs.Counts.{numbers_sound}
use Rattle.soundness.proofs.Joined.{placement_joined}
use Rattle.soundness.proofs.sound_placement.Goals as goal

pub returns-then-numbers_sound : goal.returns-then-numbers_sound
returns-then-numbers_sound c =
    placement_joined (placement_row c.args.row.now) true _ (sym c.if-numbers_sound.true ∙ c.numbers_sound.ensures ∙ ap numbers_sound c.read.ensures) c.optional_fits.ensures

pub returns-else-numbers_sound : goal.returns-else-numbers_sound
returns-else-numbers_sound c =
    c.if-numbers_sound.false
    ∙ placement_joined (placement_row c.args.row.now) false _ (sym c.if-numbers_sound.false ∙ c.numbers_sound.ensures ∙ ap numbers_sound c.read.ensures) refl
