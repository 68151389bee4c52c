-- Open without it: that a block of zeros is what an opening over the room leaves.
use Rattle.reading.proofs.Accepted.{over}
use Rattle.reading.proofs.opened.over_the_room.Goals as goal

pub returns : goal.returns
returns c = over c.from.ensures c.refuse.ensures
