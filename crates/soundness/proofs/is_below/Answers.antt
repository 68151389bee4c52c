use Rattle.std.proofs.Common.{ap, ◌∙◌}
use Rattle.metadata.specs.Sound.{replicas_below}
use Rattle.soundness.proofs.is_below.Goals as goal

pub returns : goal.returns
returns c = c.replicas_below.ensures ∙ ap (replicas_below c.args.mark) c.read.ensures
