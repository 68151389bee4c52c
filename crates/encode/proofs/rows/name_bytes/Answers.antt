-- By itself the check does not join the front to the whole row.
use Rattle.std.proofs.Common.{rules}
use Rattle.encode.specs.Widths.{name_row_width}
use Rattle.encode.proofs.Fronts.{whole_row}
use Rattle.encode.proofs.RowsRead.{name_read}
use Rattle.encode.proofs.rows.name_bytes.Goals as goal

pub returns-clause-bytes : goal.returns-clause-bytes
returns-clause-bytes c = whole_row name_row_width _ _ (search rules) c.put_name.ensures.front

pub returns-clause-read : goal.returns-clause-read
returns-clause-read c = name_read _ _ c.put_name.ensures.wide (search rules) (returns-clause-bytes c)
