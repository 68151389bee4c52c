-- Open without them: each way by its law.

use Rattle.changes.proofs.Lifecycle.{registered_known, registered_new}
use Rattle.changes.proofs.register_node.Goals as goal

pub returns-in-Some : goal.returns-in-Some
returns-in-Some c = registered_known c.args.n.now c.args.part.now _ _ c.used-rows.ensures _ c.in-Some.ensures c.move_node.ensures

pub returns-in-None : goal.returns-in-None
returns-in-None c = registered_new c.args.n.now c.args.part.now _ _ c.used-rows.ensures c.in-None.ensures c.add_node.ensures
