-- What the closure says of each row is not found by itself: the law takes it as a premise.
use Rattle.std.proofs.Common.{rules, tests, ◌∙◌}
use Rattle.laws.proofs.Found.{any_from_any}
use Rattle.laws.proofs.Through.{any_map}
use Rattle.metadata.specs.Tablets.{holds_bucket}
use Rattle.rows.specs.Rows.{tablet_row}
use Rattle.tablets.proofs.bucket_held.Goals as goal

pub returns : goal.returns
returns c =
    let p = holds_bucket c.args.k c.args.bucket in
    any_from_any _ _ (λ b. p (tablet_row b)) c.args.tablets.now _ c.any.ensures.ran (cc) (λ x b q k. search (rules, tests)) ∙ any_map tablet_row p c.args.tablets.now
