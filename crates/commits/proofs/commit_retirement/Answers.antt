-- Open without it: what the catalog then is, by one law.
use Rattle.commits.proofs.Parts.{retirement_added}
use Rattle.commits.proofs.commit_retirement.Goals as goal

pub returns : goal.returns
returns c = retirement_added c.args.catalog.now c.requires c.args.x.now c.add_retirement.new.part c.add_retirement.ensures
