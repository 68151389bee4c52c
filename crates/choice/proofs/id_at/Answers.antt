-- Open without it: the id of the node whose row was found.
use Rattle.rows.specs.Rows.{node_row}
use Rattle.choice.proofs.Rows.{id_of}
use Rattle.choice.proofs.id_at.Goals as goal

pub returns-in-Some : goal.returns-in-Some
returns-in-Some c = let h = c.in-Some.ensures.lookup in id_of (λ n. node_row n.now) c.args.chosen.now c.args.i c.in-Some.n.now c.node_id.ensures h.3.0 h.1
