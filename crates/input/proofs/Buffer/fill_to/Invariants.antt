use Rattle.std.specs.Prelude.{◌-◌, length}
use Rattle.input.proofs.Growing.{Growing}
use Rattle.input.specs.Filled.{hand}
use Rattle.input.proofs.Buffer.fill_to.Given as goal

abbrev pub invariant-loop-self : goal.invariant-loop-self
invariant-loop-self g l = Growing (hand l.initial.self) (hand l.self) (g.R.Read.remaining l.initial.input) (g.R.Read.remaining l.input)

abbrev pub decreases-loop-self : goal.decreases-loop-self
decreases-loop-self g l = l.fn.least - length (hand l.self)
