-- Open without it: the rows of a refused opening, under the answer of one that is cut short.
use Rattle.std.proofs.Common.{arith}
use Rattle.vectors_owned.proofs.Openings.{cut_short}
use Rattle.vectors_owned.proofs.cut_opening.Goals as goal

pub returns : goal.returns
returns c = cut_short _ 0 (omega arith) _ _ c.open.ensures
