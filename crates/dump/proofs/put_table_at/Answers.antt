use Rattle.dump.proofs.Lines.{row_line}
use Rattle.dump.specs.Dump.{table_line_among}
use Rattle.rows.specs.Rows.{table_row, table_rows, tablet_rows}
use Rattle.dump.proofs.put_table_at.Goals as goal

pub returns : goal.returns
returns c =
    let there = c.in-Some.ensures.lookup in
    row_line
    table_row
    (table_line_among (table_rows c.args.tables.now) (tablet_rows c.args.tablets.now))
    c.args.tables.now
    c.args.i
    there.3.0
    there.1
    c.read-t.ensures
    c.requires
    (rw c.is_complete.ensures at c.put_table.ensures.text)
