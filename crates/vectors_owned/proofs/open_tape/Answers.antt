-- Open without it: more tables than there is room for.
use Rattle.std.proofs.Common.{arith, rules}
use Rattle.vectors_owned.proofs.Openings.{too_many}
use Rattle.vectors_owned.proofs.open_tape.Goals as goal

pub returns-then-count-gt-TABLE_ROOM : goal.returns-then-count-gt-TABLE_ROOM
unfolding Rattle.reading.specs.Reader.open_tape
returns-then-count-gt-TABLE_ROOM c = let k = too_many _ _ (omega arith) _ _ c.open.ensures in search (rules, k)
