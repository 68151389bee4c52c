-- By itself the search ends at five pieces, and the check does not gather what the types say of the fields, which the law asks for as a record.
use Rattle.std.proofs.Common.{rules}
use Rattle.encode.specs.Encode.{node_bytes}
use Rattle.encode.specs.Widths.{node_width}
use Rattle.encode.proofs.Fronts.{whole_row, behind}
use Rattle.encode.proofs.RowsRead.{node_read}
use Rattle.encode.proofs.rows.node_bytes.Goals as goal

pub returns-clause-bytes : goal.returns-clause-bytes
unfolding node_bytes
returns-clause-bytes c = whole_row node_width _ _ (search rules) (search (behind, rules) depth 15)

pub returns-clause-read : goal.returns-clause-read
returns-clause-read c = node_read _ _ (search rules) (search rules) (returns-clause-bytes c)
