use Rattle.decode.specs.Decode.{optional_at}
use Rattle.labels.proofs.Count.{Counting}
use Rattle.labels.proofs.distinct_up_to.Given as goal

abbrev pub invariant-loop-i : goal.invariant-loop-i
invariant-loop-i l = Counting (λ n. optional_at n.now l.place) l.most l.nodes l.i l.count
