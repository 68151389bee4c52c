-- Open without it: what a command that was carried out leaves, by one law.
use Rattle.std.proofs.Common.{sym}
use Rattle.steps.proofs.Stepping.{carried_out}
use Rattle.steps.proofs.step.Goals as goal

pub returns-then-is_applied : goal.returns-then-is_applied
returns-then-is_applied c = carried_out c.args.block.now c.args.c.now c.requires c.decide-answer.ensures (sym c.if-is_applied.ensures) c.commit.ensures
