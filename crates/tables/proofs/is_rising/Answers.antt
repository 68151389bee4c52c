-- What the closure says of two rows is not found by itself: `is_sorted_by` takes it as a premise.
use Rattle.std.proofs.Common.{rules, tests, ◌∙◌}
use Rattle.std.proofs.lemmas.Fn.{always_returns_same}
use Rattle.laws.specs.Keyed.{before}
use Rattle.laws.specs.Through.{through}
use Rattle.laws.proofs.Adjacent.{rising_is}
use Rattle.laws.proofs.Through.{rising_map}
use Rattle.tables.proofs.is_rising.Goals as goal

pub returns : goal.returns
returns g c =
    let f = g.T.Table.record_of in
    let t = before (through f g.T.Table.keyed) in
    rising_is t c.args.rows.now c.is_sorted_by.result (c.is_sorted_by.ensures.cases t (always_returns_same _ _ _ (λ a r q k. search (rules, tests))))
    ∙ rising_map f (before g.T.Table.keyed) c.args.rows.now
