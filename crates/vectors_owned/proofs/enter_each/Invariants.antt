use Rattle.std.specs.Prelude.{◌-◌, length}
use Rattle.stored_tapes.proofs.Replaying.{Replaying}
use Rattle.vectors_owned.proofs.enter_each.Given as goal

abbrev pub invariant-loop-b : goal.invariant-loop-b
invariant-loop-b g l = Replaying l.tape l.store.bytes l.at l.line (g.W.Write.contents l.initial.out) (g.W.Write.contents l.out)

abbrev pub decreases-loop-b : goal.decreases-loop-b
decreases-loop-b g l = length l.tape - l.at
