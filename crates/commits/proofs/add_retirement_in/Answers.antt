-- Open without it: what the block then is, by one law.
use Rattle.commits.specs.Commits.{RetirementAdded}
use Rattle.commits.proofs.Parts.{catalog_changed}
use Rattle.commits.proofs.add_retirement_in.Goals as goal

pub returns : goal.returns
returns c = catalog_changed c.args.block.now c.requires (RetirementAdded c.args.x.now) c.commit_retirement.new.catalog c.commit_retirement.ensures c.commit_retirement.ensures.long
