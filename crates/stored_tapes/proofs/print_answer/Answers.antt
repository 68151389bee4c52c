-- Open without them: a list of another length than four has no line.
use Rattle.stored_tapes.proofs.Answering.{answer_short, answer_long}
use Rattle.stored_tapes.proofs.print_answer.Goals as goal

pub returns-in_default : goal.returns-in_default
returns-in_default g c = answer_short _ c.args.line c.args.numbers.now _ c.in_default.len_below

pub returns-in_default-2 : goal.returns-in_default-2
returns-in_default-2 g c = answer_long _ c.args.line c.args.numbers.now _ c.in_default.len_at_least
