-- Open without them: who adds more, and the tie, for every list of chosen nodes with these gains.
use Rattle.choice.proofs.Rows.{more, less, tied}
use Rattle.choice.proofs.is_better.Goals as goal

pub returns-then-b-a : goal.returns-then-b-a
returns-then-b-a c = λ l e f. more l _ _ e f c.if-b-a.true

pub returns-then-b-a-2 : goal.returns-then-b-a-2
returns-then-b-a-2 c = λ l e f. rw c.lt.ensures (tied l _ _ e f c.if-b-a-2.true c.node_id.ensures c.node_id-then-b-a-2.ensures)

pub returns-else-b-a-2 : goal.returns-else-b-a-2
returns-else-b-a-2 c = λ l e f. less l _ _ e f c.if-b-a.false c.if-b-a-2.false
