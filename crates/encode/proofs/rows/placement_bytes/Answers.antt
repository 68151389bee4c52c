-- By itself the search ends at five pieces, and the check does not gather what the types say of the fields, which the law asks for as a record.
use Rattle.std.proofs.Common.{rules}
use Rattle.encode.specs.Encode.{placement_bytes}
use Rattle.encode.specs.Widths.{placement_width}
use Rattle.encode.proofs.Fronts.{whole_row, behind}
use Rattle.encode.proofs.RowsRead.{placement_read}
use Rattle.encode.proofs.rows.placement_bytes.Goals as goal

pub returns-clause-bytes : goal.returns-clause-bytes
unfolding placement_bytes
returns-clause-bytes c = whole_row placement_width _ _ (search rules) (search (behind, rules) depth 15)

pub returns-clause-read : goal.returns-clause-read
returns-clause-read c = placement_read _ _ (search rules) (search rules) (returns-clause-bytes c)
