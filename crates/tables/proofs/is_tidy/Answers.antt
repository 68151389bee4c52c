use Rattle.tables.proofs.Zeros.{tidy_within, tidy_over}
use Rattle.tables.proofs.is_tidy.Goals as goal

pub returns-then-count-room : goal.returns-then-count-room
returns-then-count-room c = tidy_within c.args.width c.args.room _ c.args.table.now c.requires c.number8-count.ensures c.if-count-room.true _ c.is_clear.ensures

pub returns-else-count-room : goal.returns-else-count-room
returns-else-count-room c = tidy_over c.args.width c.args.room _ c.args.table.now c.requires c.number8-count.ensures c.if-count-room.false
