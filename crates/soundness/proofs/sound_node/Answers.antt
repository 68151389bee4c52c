use Rattle.std.proofs.Common.{refl, sym, ◌∙◌, true, false}
use Rattle.metadata.specs.Sound.{sound_node}
use Rattle.soundness.proofs.Joined.{five}
use Rattle.soundness.proofs.sound_node.Goals as goal

pub returns-then-endpoints_fit : goal.returns-then-endpoints_fit
unfolding sound_node
returns-then-endpoints_fit c = five _ _ _ _ _ true _ (sym c.if-endpoints_fit.true ∙ c.endpoints_fit.ensures) c.labels_fit.ensures

pub returns-else-endpoints_fit : goal.returns-else-endpoints_fit
unfolding sound_node
returns-else-endpoints_fit c = c.if-endpoints_fit.false ∙ five _ _ _ _ _ false _ (sym c.if-endpoints_fit.false ∙ c.endpoints_fit.ensures) refl
