use Rattle.std.proofs.Common.{refl, ap, ◌∙◌}
use Rattle.encode.specs.Widths.{node_width}
use Rattle.metadata.specs.Rooms.{node_room}
use Rattle.tables.specs.Rows.{tidy}
use Rattle.layout.specs.Layout.{tidy_directory}
use Rattle.layout.specs.Places.{nodes_place, nodes_length}
use Rattle.layout.proofs.Parts.{tail_is}
use Rattle.soundness.proofs.directory_tidy.Goals as goal

-- all that stands behind the name
pub returns : goal.returns
unfolding tidy_directory
returns c = c.is_tidy.ensures ∙ ap (tidy node_width node_room) (tail_is nodes_place nodes_length _ c.args.directory.now c.requires refl)
