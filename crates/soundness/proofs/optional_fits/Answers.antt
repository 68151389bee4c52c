use Rattle.soundness.proofs.Padding.{absent_fits}
use Rattle.soundness.proofs.optional_fits.Goals as goal

pub returns-then-row-at : goal.returns-then-row-at
returns-then-row-at c = absent_fits 24 c.args.at c.args.row.now _ c.if-row-at.true c.words_clear.ensures
