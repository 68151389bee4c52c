-- What the closure says of two endpoints is not found by itself: `none_twice` takes it as a premise.
-- The endpoints are compared where they stand.
use Rattle.std.proofs.Common.{rules}
use Rattle.laws.specs.Lists.{none_twice}
use Rattle.metadata.specs.Texts.{same_name}
use Rattle.admission.proofs.nodes.endpoints_differ.Goals as goal

pub returns : goal.returns
unfolding none_twice
returns c = search (rules, c.none_twice.ensures (λ a b. same_name a.now b.now) (λ a b r h. search rules))
