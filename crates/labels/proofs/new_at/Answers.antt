-- Open without them: both values. What `present_at` ensures speaks of a choice, which is Some here.
use Rattle.std.proofs.Common.{rules}
use Rattle.labels.proofs.Lent.{present_adds, absent_adds}
use Rattle.labels.proofs.new_at.Goals as goal

pub returns-in-Some-clause-value : goal.returns-in-Some-clause-value
returns-in-Some-clause-value c = rw c.from.ensures (present_adds _ _ _ (rw c.in-Some.is at c.present_at.ensures) c.occurs.ensures)

pub returns-in-None-clause-value : goal.returns-in-None-clause-value
returns-in-None-clause-value c = search (rules, absent_adds)
