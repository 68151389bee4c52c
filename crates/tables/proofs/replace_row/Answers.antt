use Rattle.std.proofs.Common.{arith}
use Rattle.tables.proofs.Changed.{within, replaced_at}
use Rattle.tables.proofs.replace_row.Goals as goal

pub overflow_mul-place : goal.overflow_mul-place
overflow_mul-place c = omega (arith, within c.args.room c.args.at c.args.row.now c.args.table.now c.requires.long c.requires.among)

pub returns : goal.returns
returns c = replaced_at c.args.room c.args.at c.args.row.now c.args.table.now c.requires.long c.requires.among _ c.copy_from_slice.ensures.after
