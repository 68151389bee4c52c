-- Open without them: the directory at the block's front, and what the block then is, by one law each.
use Rattle.std.proofs.Common.{sym}
use Rattle.changes.specs.Changes.{Registered}
use Rattle.commits.specs.Commits.{NodesChanged}
use Rattle.commits.proofs.Parts.{directory_lent, directory_changed}
use Rattle.commits.proofs.register_in.Goals as goal

pub slice_bounds-register-end-2 : goal.slice_bounds-register-end-2
slice_bounds-register-end-2 c = sym (directory_lent c.args.block.now c.requires)

pub register-requires : goal.register-requires
register-requires c = directory_lent c.args.block.now c.requires

pub returns : goal.returns
returns c = directory_changed c.args.block.now c.requires (NodesChanged (Registered c.args.n.now)) c.register.new.directory c.register.ensures c.register.ensures.long
