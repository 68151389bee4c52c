-- Open without it: what the row says with another byte at the lifecycle's place.
use Rattle.std.specs.Prelude.{◌≡◌, length}
use Rattle.encode.specs.Widths.{node_width}
use Rattle.changes.proofs.Lifecycle.{lifecycle_set}
use Rattle.changes.proofs.moved.Goals as goal

pub returns-clause-row : goal.returns-clause-row
returns-clause-row c =
    let e : length c.args.row.now ≡ node_width = cc in
    lifecycle_set c.args.row.now c.args.to e
