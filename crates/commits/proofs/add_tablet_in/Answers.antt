-- Open without it: what the block then is, by one law.
use Rattle.commits.specs.Commits.{TabletAdded}
use Rattle.commits.proofs.Parts.{catalog_changed}
use Rattle.commits.proofs.add_tablet_in.Goals as goal

pub returns : goal.returns
returns c = catalog_changed c.args.block.now c.requires (TabletAdded c.args.t.now) c.commit_tablet.new.catalog c.commit_tablet.ensures c.commit_tablet.ensures.long
