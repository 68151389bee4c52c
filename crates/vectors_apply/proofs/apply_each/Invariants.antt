use Rattle.std.specs.Prelude.{◌-◌, length}
use Rattle.stored_tapes.proofs.Replaying.{Replaying}
use Rattle.vectors_apply.proofs.apply_each.Given as goal

abbrev pub invariant-loop-next : goal.invariant-loop-next
invariant-loop-next g l = Replaying l.tape l.store l.at l.line (g.W.Write.contents l.initial.out) (g.W.Write.contents l.out)

abbrev pub decreases-loop-next : goal.decreases-loop-next
decreases-loop-next g l = length l.tape - l.at
