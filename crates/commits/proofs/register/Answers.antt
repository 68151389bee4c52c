-- Open without it: what the directory then is, by one law.
use Rattle.changes.specs.Changes.{Registered}
use Rattle.commits.proofs.Parts.{nodes_changed}
use Rattle.commits.proofs.register.Goals as goal

pub returns : goal.returns
returns c = nodes_changed c.args.directory.now c.requires (Registered c.args.n.now) c.register_node.new.part c.register_node.ensures c.register_node.ensures.long
