-- Open without it: no answer is left.
use Rattle.vectors.proofs.Printing.{print_end}
use Rattle.vectors.proofs.print_answers.Goals as goal

pub returns : goal.returns
returns g c = print_end _ _ _ _ _ _ _ _ c.loop-left.invariant c.loop-left-test.false
