-- What the closure says of each row is not found by itself: the law takes it as a premise.
use Rattle.std.proofs.Common.{rules}
use Rattle.std.proofs.lemmas.Iterator.{YieldsList-from_slice}
use Rattle.std.proofs.lemmas.Iterator.Search.{any_from_yields_List}
use Rattle.lists.proofs.passes_with.Goals as goal

pub returns : goal.returns
returns g c e by = any_from_yields_List (e c.args.x.now) _ _ _ c.any.ensures.ran (YieldsList-from_slice c.args.xs.now cc) (λ x b q k. search rules)
