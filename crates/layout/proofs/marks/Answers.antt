use Rattle.std.proofs.Common.{refl, ap, ◌∙◌}
use Rattle.encode.specs.Encode.{marks_at}
use Rattle.layout.specs.Layout.{marks_of}
use Rattle.layout.specs.Places.{marks_place, marks_length}
use Rattle.layout.proofs.Parts.{tail_is}
use Rattle.layout.proofs.marks.Goals as goal

-- all that stands behind the retirements
pub returns : goal.returns
unfolding marks_of
returns c = c.marks.ensures ∙ ap marks_at (tail_is marks_place marks_length _ c.args.catalog.now c.requires refl)
