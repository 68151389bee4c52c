-- Open without them: each way out by one law.
use Rattle.std.proofs.Common.{sym}
use Rattle.store.proofs.Calling.{too_short, are_run, are_refused}
use Rattle.store.proofs.apply.Goals as goal

pub returns-then-out-count : goal.returns-then-out-count
returns-then-out-count c = too_short c.args.block.now c.args.commands.now c.args.out.now c.count_lines-count.ensures c.if-out-count.true

pub returns-then-sound : goal.returns-then-sound
returns-then-sound c = are_run c.args.block.now c.args.commands.now c.args.out.now c.count_lines-count.ensures c.if-out-count.false (sym c.if-sound.ensures) c.run_commands.ensures

pub returns-else-sound : goal.returns-else-sound
returns-else-sound c = are_refused c.args.block.now c.args.commands.now c.args.out.now c.count_lines-count.ensures c.if-out-count.false (sym c.if-sound.ensures) c.refuse_commands.ensures
