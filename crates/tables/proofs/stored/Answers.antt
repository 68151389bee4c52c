-- What the closure says of each row is not found by itself: the law takes it as a premise.
use Rattle.std.proofs.Common.{rules, tests}
use Rattle.laws.proofs.Found.{read_from_find}
use Rattle.tables.proofs.stored.Goals as goal

pub returns : goal.returns
returns g c =
    read_from_find g.T.Table.record_of _ _ g.T.Table.keyed g.T.Table.blank (g.T.Table.key_of c.args.key) c.args.rows.now c.find.result c.find.ensures.ran (cc) (λ x b q k. search (rules, tests))
