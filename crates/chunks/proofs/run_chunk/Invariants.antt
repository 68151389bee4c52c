use Rattle.std.specs.Prelude.{◌-◌, length}
use Rattle.chunks.proofs.ChunkRuns.{Running}
use Rattle.chunks.proofs.run_chunk.Given as goal

abbrev pub invariant-loop-at : goal.invariant-loop-at
invariant-loop-at g l = Running l.chunk l.initial.store l.first l.initial.out.bytes l.store l.at l.line l.out.bytes

abbrev pub decreases-loop-at : goal.decreases-loop-at
decreases-loop-at g l = length l.chunk - l.at
