use Rattle.metadata.specs.Sound.{sound_placement}
use Rattle.soundness.proofs.placements_sound.Goals as goal

-- What the closure says of each row is not found by itself.
pub returns : goal.returns
returns c = c.all.ensures sound_placement (λ x r q. cc)
