use Rattle.std.proofs.Common.{map}
use Rattle.dump.proofs.Lines.{first_line, rest_line}
use Rattle.dump.specs.Dump.{directory_lines}
use Rattle.layout.specs.Layout.{directory_of}
use Rattle.row_lines.specs.RowLines.{node_line}
use Rattle.row_lines.specs.StoreLines.{name_line}
use Rattle.dump.proofs.put_directory_at.Goals as goal

pub returns-then-i-eq0 : goal.returns-then-i-eq0
unfolding directory_lines
returns-then-i-eq0 c =
    let d = directory_of c.args.directory.now in
    first_line (name_line d.name) (map node_line d.nodes) c.args.i c.if-i-eq0.true c.requires.empty (rw c.name.ensures at c.put_name.ensures.text)

pub returns : goal.returns
unfolding directory_lines
returns c =
    let d = directory_of c.args.directory.now in
    rest_line (name_line d.name) (map node_line d.nodes) c.args.i c.if-i-eq0.false (rw c.nodes.ensures.rows at c.put_row_at.ensures)
