use Rattle.std.proofs.Common.{rules}
use Rattle.metadata.specs.Sound.{replicas_below}
use Rattle.soundness.proofs.placements_below.Goals as goal

-- What the closure says of each row is not found by itself.
pub returns : goal.returns
returns c = c.all.ensures (replicas_below c.args.mark) (λ x r q. search rules)
