-- Open without them: both clauses of a refused opening, and both where the list is long enough. Each is found from one law, which `using` on the function would try at every goal.
use Rattle.std.proofs.Common.{rules}
use Rattle.tape.proofs.Whole.{refused_run, refused_out, whole_run, whole_out}
use Rattle.tape.proofs.run_whole.Goals as goal

pub returns-then-not-is_applied-clause-ran : goal.returns-then-not-is_applied-clause-ran
returns-then-not-is_applied-clause-ran c = search (rules, refused_run)

pub returns-then-not-is_applied-clause-out : goal.returns-then-not-is_applied-clause-out
returns-then-not-is_applied-clause-out c = search (rules, refused_out)

pub returns-then-not-short-clause-ran : goal.returns-then-not-short-clause-ran
returns-then-not-short-clause-ran c = search (rules, whole_run)

pub returns-then-not-short-clause-out : goal.returns-then-not-short-clause-out
returns-then-not-short-clause-out c = search (rules, whole_out)
