-- Open without them: the directory at the block's front, and what the block then is, by one law each.
use Rattle.std.proofs.Common.{sym}
use Rattle.changes.specs.Changes.{Moved}
use Rattle.commits.specs.Commits.{NodesChanged}
use Rattle.commits.proofs.Parts.{directory_lent, directory_changed}
use Rattle.commits.proofs.advance_in.Goals as goal

pub slice_bounds-advance-end-2 : goal.slice_bounds-advance-end-2
slice_bounds-advance-end-2 c = sym (directory_lent c.args.block.now c.requires)

pub advance-requires : goal.advance-requires
advance-requires c = directory_lent c.args.block.now c.requires

pub returns : goal.returns
returns c = directory_changed c.args.block.now c.requires (NodesChanged (Moved c.args.k c.args.to)) c.advance.new.directory c.advance.ensures c.advance.ensures.long
