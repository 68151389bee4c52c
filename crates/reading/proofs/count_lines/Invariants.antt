use Prim.Native.Nat.{◌-◌}
use lib.ListN.{length}
use Rattle.reading.proofs.Reading.{Counting}
use Rattle.reading.proofs.count_lines.Given as goal

abbrev pub invariant-loop-next : goal.invariant-loop-next
invariant-loop-next l = Counting l.tape l.at l.place l.n

abbrev pub decreases-loop-next : goal.decreases-loop-next
decreases-loop-next l = length l.tape - l.place
