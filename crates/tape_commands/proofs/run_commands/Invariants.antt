use Rattle.std.specs.Prelude.{◌-◌, length}
use Rattle.tape_commands.proofs.Loop.{Stands}
use Rattle.tape_commands.proofs.run_commands.Given as goal

abbrev pub invariant-loop-b : goal.invariant-loop-b
invariant-loop-b l = Stands l.tape l.initial.store l.from l.initial.out l.store l.at l.place l.out

abbrev pub decreases-loop-b : goal.decreases-loop-b
decreases-loop-b l = length l.tape - l.at
