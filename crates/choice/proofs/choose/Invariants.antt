use Rattle.std.specs.Prelude.{◌-◌, length}
use Rattle.rows.specs.Rows.{node_rows}
use Rattle.metadata.specs.Rooms.{initial_replication_factor}
use Rattle.choice.proofs.Picking.{Picking}
use Rattle.choice.proofs.choose.Given as goal

abbrev pub invariant-loop-chosen : goal.invariant-loop-chosen
invariant-loop-chosen l = Picking (node_rows l.nodes) l.chosen

abbrev pub decreases-loop-chosen : goal.decreases-loop-chosen
decreases-loop-chosen l = initial_replication_factor - length l.chosen
