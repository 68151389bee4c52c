-- By itself the check does not gather what the types say of the fields, which the law asks for as a record.
use Rattle.std.proofs.Common.{rules}
use Rattle.encode.specs.Encode.{marks_bytes}
use Rattle.encode.specs.Widths.{marks_width}
use Rattle.encode.proofs.Fronts.{whole_row, behind}
use Rattle.encode.proofs.RowsRead.{marks_read}
use Rattle.encode.proofs.rows.marks_bytes.Goals as goal

pub returns-clause-bytes : goal.returns-clause-bytes
unfolding marks_bytes
returns-clause-bytes c = whole_row marks_width _ _ (search rules) (search (behind, rules))

pub returns-clause-read : goal.returns-clause-read
returns-clause-read c = marks_read _ _ (search rules) (search rules) (returns-clause-bytes c)
