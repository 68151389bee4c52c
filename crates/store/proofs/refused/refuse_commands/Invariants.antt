use Rattle.std.specs.Prelude.{◌-◌, length}
use Rattle.store.proofs.Refusing.{Stands}
use Rattle.store.proofs.refused.refuse_commands.Given as goal

abbrev pub invariant-loop-next : goal.invariant-loop-next
invariant-loop-next l = Stands l.commands l.initial.out l.at l.place l.out

abbrev pub decreases-loop-next : goal.decreases-loop-next
decreases-loop-next l = length l.commands - l.at
