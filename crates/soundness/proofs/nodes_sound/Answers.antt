use Rattle.metadata.specs.Sound.{sound_node}
use Rattle.soundness.proofs.nodes_sound.Goals as goal

-- What the closure says of each row is not found by itself.
pub returns : goal.returns
returns c = c.all.ensures sound_node (λ x r q. cc)
