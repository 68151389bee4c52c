-- Open without it: what the directory then is, by one law.
use Rattle.changes.specs.Changes.{Moved}
use Rattle.commits.proofs.Parts.{nodes_changed}
use Rattle.commits.proofs.advance.Goals as goal

pub returns : goal.returns
returns c = nodes_changed c.args.directory.now c.requires (Moved c.args.k c.args.to) c.move_node.new.part c.move_node.ensures c.move_node.ensures.long
