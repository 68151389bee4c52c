-- What the closure says of each row is not found by itself: the law takes it as a premise.
use Rattle.std.proofs.Common.{rules, tests, ◌∙◌}
use Rattle.laws.proofs.Found.{place_from_position}
use Rattle.laws.proofs.Through.{find_map}
use Rattle.tables.specs.Rows.{under}
use Rattle.tables.proofs.find.Goals as goal

pub returns : goal.returns
returns g c =
    let p = under g.T.Table.keyed (g.T.Table.key_of c.args.key) in
    let f = g.T.Table.record_of in
    place_from_position _ _ (λ r. p (f r)) c.args.rows.now _ c.position.ensures.ran (cc) (λ x b q k. search (rules, tests)) ∙ find_map f p c.args.rows.now
