-- Open without them: the directory at the block's front, and what the block then is, by one law each.
use Rattle.std.proofs.Common.{sym}
use Rattle.commits.specs.Commits.{NameGiven}
use Rattle.std.specs.Prelude.{true}
use Rattle.commits.proofs.Parts.{directory_lent, directory_changed}
use Rattle.commits.proofs.name_cluster.Goals as goal

pub slice_bounds-give_name-end-2 : goal.slice_bounds-give_name-end-2
slice_bounds-give_name-end-2 c = sym (directory_lent c.args.block.now c.requires)

pub give_name-requires : goal.give_name-requires
give_name-requires c = directory_lent c.args.block.now c.requires

pub returns : goal.returns
returns c = directory_changed c.args.block.now c.requires (NameGiven (record { present = true; text = c.args.t.now })) c.give_name.new.directory c.give_name.ensures c.give_name.ensures.long
