-- What the closure reads at each place is not found by itself: `whole` takes it as a premise.
use Rattle.std.proofs.Common.{rules}
use Rattle.decode.specs.Decode.{replica_at}
use Rattle.decode.proofs.Listed.{whole}
use Rattle.metadata.specs.Rooms.{replica_room}
use Rattle.decode.proofs.rows.replicas_at.Goals as goal

pub returns : goal.returns
returns c =
    let read = c.from_fn.ensures.items in
    whole replica_at 17 c.args.s.now replica_room c.args.at c.from_fn.result read.long (λ i e h. let called = read.at i e h in search rules)
