-- By itself the search ends at five pieces, and the check does not gather what the types say of the fields, which the law asks for as a record.
use Rattle.std.proofs.Common.{rules}
use Rattle.encode.specs.Encode.{retirement_bytes}
use Rattle.encode.specs.Widths.{retirement_width}
use Rattle.encode.proofs.Fronts.{whole_row, behind}
use Rattle.encode.proofs.RowsRead.{retirement_read}
use Rattle.encode.proofs.rows.retirement_bytes.Goals as goal

pub returns-clause-bytes : goal.returns-clause-bytes
unfolding retirement_bytes
returns-clause-bytes c = whole_row retirement_width _ _ (search rules) (search (behind, rules) depth 15)

pub returns-clause-read : goal.returns-clause-read
returns-clause-read c = retirement_read _ _ (search rules) (search rules) (returns-clause-bytes c)
