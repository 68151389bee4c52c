-- What the closure says of each name is not found by itself: the law takes it as a premise.
use Rattle.std.proofs.Common.{rules, tests}
use Rattle.laws.proofs.Found.{place_from_position}
use Rattle.laws.specs.Bytes.{eq_bytes}
use Rattle.nodes.proofs.clashes.clash_at.Goals as goal

pub returns-clause-found : goal.returns-clause-found
returns-clause-found c = place_from_position _ _ (λ e. eq_bytes e.now c.args.t.now) c.args.existing.now _ c.position.ensures.ran (cc) (λ x b q k. search (rules, tests))
