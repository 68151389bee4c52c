-- What the closure says of each row is not found by itself: the law takes it as a premise.
use Rattle.std.proofs.Common.{rules, tests, ◌∙◌}
use Rattle.laws.proofs.Found.{every_from_all}
use Rattle.laws.proofs.Through.{every_map}
use Rattle.tables.proofs.all.Goals as goal

pub returns : goal.returns
returns g c p t =
    every_from_all _ _ (λ b. p (g.T.Table.record_of b)) c.args.rows.now _ c.all.ensures.ran (cc) (λ x b q k. search (rules, tests, t))
    ∙ every_map g.T.Table.record_of p c.args.rows.now
