-- Open without it: which placement `get` found.
use Rattle.rows.specs.Rows.{placement_rows}
use Rattle.placements.proofs.Looked.{stored_got}
use Rattle.placements.proofs.stored_placement.Goals as goal

pub returns : goal.returns
returns c = stored_got c.args.tablet.0 (placement_rows c.args.placements.now) c.get.result c.get.ensures
