-- Open without them: the next turn of the walk, and its two ways out. Each is found from one law, which `using` on the function would try at every goal.
use Rattle.std.proofs.Common.{rules}
use Rattle.reading.proofs.Reading.{count_whole, count_stopped, count_none}
use Rattle.reading.proofs.count_lines.Goals as goal

pub loop-next-preserved : goal.loop-next-preserved
loop-next-preserved c = search (rules, count_whole)

pub returns-in-Unknown : goal.returns-in-Unknown
returns-in-Unknown c = search (rules, count_stopped)

pub returns-in-End : goal.returns-in-End
returns-in-End c = search (rules, count_none)
