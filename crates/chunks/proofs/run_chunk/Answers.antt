-- Open without them: the next turn of the walk, and each way out. Each is found from one law, which `using` on the function would try at every goal.
use Rattle.std.proofs.Common.{rules}
use Rattle.chunks.proofs.ChunkRuns.{run_next, run_over, run_cut, run_end, run_unknown}
use Rattle.chunks.proofs.run_chunk.Goals as goal

pub loop-at-preserved : goal.loop-at-preserved
loop-at-preserved g c = search (rules, run_next)

pub returns-in-Unknown : goal.returns-in-Unknown
returns-in-Unknown g c = search (rules, run_unknown)

pub returns-in-Cut : goal.returns-in-Cut
returns-in-Cut g c = search (rules, run_cut)

pub returns-in-End : goal.returns-in-End
returns-in-End g c = search (rules, run_end)

pub returns : goal.returns
returns g c = search (rules, run_over)
