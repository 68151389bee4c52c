use Rattle.tables.proofs.Changed.{full, room_for, inserted}
use Rattle.tables.proofs.insert_row.Goals as goal

pub returns-then-room-count : goal.returns-then-room-count
returns-then-room-count c = full c.args.room c.args.row.now c.args.table.now _ c.number8-count.ensures c.args.at c.if-room-count.true

pub put_row-requires : goal.put_row-requires
put_row-requires c = room_for c.args.room c.args.row.now c.args.table.now _ c.number8-count.ensures c.requires.long c.if-room-count.false c.args.at c.requires.among

pub returns : goal.returns
returns c =
    inserted c.args.room c.args.row.now c.args.table.now _ c.number8-count.ensures c.requires.long c.if-room-count.false c.args.at c.requires.within c.requires.among _ _
    c.put_row.ensures c.put8.ensures
