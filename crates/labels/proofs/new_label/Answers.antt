-- Open without it: that what stands at the place is the label for the domain.
use Rattle.std.proofs.Common.{◌∙◌}
use Rattle.labels.proofs.Places.{new_there}
use Rattle.labels.proofs.new_label.Goals as goal

pub returns-clause-value : goal.returns-clause-value
returns-clause-value c = c.new_at.ensures.value ∙ new_there c.args.domain c.args.others.now c.label_place.ensures c.args.n.now
