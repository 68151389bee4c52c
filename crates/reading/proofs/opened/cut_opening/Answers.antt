-- Open without it: that a block of zeros is what a cut opening leaves.
use Rattle.reading.proofs.Accepted.{cut}
use Rattle.reading.proofs.opened.cut_opening.Goals as goal

pub returns : goal.returns
returns c = cut c.refuse.ensures
