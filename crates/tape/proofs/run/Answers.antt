-- Open without it: the clause of the history. Found from one law, which `using` on the function would try at every goal.
use Rattle.std.proofs.Common.{rules}
use Rattle.tape.proofs.History.{run_history}
use Rattle.tape.proofs.run.Goals as goal

pub returns-clause-history : goal.returns-clause-history
returns-clause-history c = search (rules, run_history)
