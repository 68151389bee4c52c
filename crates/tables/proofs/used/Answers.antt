use Rattle.tables.proofs.used.Goals as goal
use Rattle.std.proofs.Common.{refl}
use Rattle.tables.proofs.Pieces.{used_rows}

-- the rows in use
pub returns : goal.returns
returns g c = used_rows g.row.W c.args.room _ _ c.args.table.now _ _ c.requires.0 c.requires.1 c.number8-count.ensures c.min.ensures refl c.as_chunks.ensures.front
