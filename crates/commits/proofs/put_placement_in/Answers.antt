-- Open without it: what the block then is, by one law.
use Rattle.commits.specs.Commits.{PlacementPut}
use Rattle.commits.proofs.Parts.{catalog_changed}
use Rattle.commits.proofs.put_placement_in.Goals as goal

pub returns : goal.returns
returns c = catalog_changed c.args.block.now c.requires (PlacementPut c.args.p.now) c.commit_placement.new.catalog c.commit_placement.ensures c.commit_placement.ensures.long
