use Rattle.dump.proofs.Lines.{row_line}
use Rattle.dump.proofs.put_row_at.Goals as goal

pub returns : goal.returns
returns g c =
    let there = c.in-Some.ensures.lookup in
    row_line g.T.Table.record_of g.T.Record.Printed.text c.args.rows.now c.args.i there.3.0 there.1 c.read.ensures c.requires.empty c.put.ensures.text
