use Rattle.std.proofs.Common.{refl, ap, ◌∙◌}
use Rattle.layout.specs.Layout.{nodes_in}
use Rattle.layout.specs.Places.{nodes_place, nodes_length}
use Rattle.layout.proofs.Parts.{tail_is}
use Rattle.rows.specs.Rows.{node_rows}
use Rattle.layout.proofs.nodes.Goals as goal

-- all that stands behind the name
pub returns-clause-rows : goal.returns-clause-rows
returns-clause-rows c = ap node_rows c.used.ensures ∙ ap nodes_in (tail_is nodes_place nodes_length _ c.args.directory.now c.requires refl)
