use Rattle.std.specs.Prelude.{◌-◌, length}
use Rattle.printing.proofs.Sending.{Sending}
use Rattle.printing.proofs.emit.Given as goal

abbrev pub invariant-loop-done : goal.invariant-loop-done
invariant-loop-done g l = Sending (g.W.Write.contents l.initial.to) (g.W.Write.contents l.to) l.text l.done

abbrev pub decreases-loop-done : goal.decreases-loop-done
decreases-loop-done g l = length l.text - l.done
