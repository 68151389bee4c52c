-- What the closure says of each row is not found by itself: the law takes it as a premise.
use Rattle.std.proofs.Common.{rules, tests, ◌∙◌}
use Rattle.laws.specs.Through.{through}
use Rattle.laws.proofs.Found.{has_from_any}
use Rattle.laws.proofs.Through.{has_map}
use Rattle.tables.proofs.contains.Goals as goal

pub returns : goal.returns
returns g c =
    let f = g.T.Table.record_of in
    has_from_any _ _ (through f g.T.Table.keyed) (g.T.Table.key_of c.args.key) c.args.rows.now _ c.any.ensures.ran (cc) (λ x b q k. search (rules, tests))
    ∙ has_map f g.T.Table.keyed (g.T.Table.key_of c.args.key) c.args.rows.now
