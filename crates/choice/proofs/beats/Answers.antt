-- Open without it: against a best that is there.
use Rattle.choice.proofs.beats.Goals as goal

pub returns-in-Some : goal.returns-in-Some
returns-in-Some c = λ l e f. rw c.in-Some.is (c.is_better.ensures l f (rw c.in-Some.is at e))
