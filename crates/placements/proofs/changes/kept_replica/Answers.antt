-- What the closure says of each row is not found by itself: the law takes it as a premise. Here the rows come from the last on.
use Rattle.std.specs.Prelude.{eqb}
use Rattle.std.proofs.Common.{rules, tests, ◌∙◌}
use Rattle.std.proofs.lemmas.Iterator.Adapters.{YieldsList-from_rev_slice}
use Rattle.std.proofs.lemmas.Iterator.Search.{find_from_yields_List}
use Rattle.placements.proofs.Kept.{kept_is}
use Rattle.placements.proofs.changes.kept_replica.Goals as goal

pub returns : goal.returns
returns c =
    find_from_yields_List (λ o. eqb o.replica_id.0 c.args.k.0) _ _ c.find.result c.find.ensures.ran (YieldsList-from_rev_slice c.args.old.now cc) (λ x b q k. search (rules, tests))
    ∙ kept_is c.args.k.0 c.args.old.now
