use Rattle.vectors.proofs.Printing.{Printing}
use Rattle.vectors.proofs.print_answers.Given as goal

abbrev pub invariant-loop-left : goal.invariant-loop-left
invariant-loop-left g l = Printing l.numbers l.count l.first l.rest l.left l.line (g.W.Write.contents l.initial.out) (g.W.Write.contents l.out)

abbrev pub decreases-loop-left : goal.decreases-loop-left
decreases-loop-left g l = l.left
