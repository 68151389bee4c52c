use Rattle.encode.specs.Encode.{replica_bytes}
use Rattle.encode.specs.Typed.{TypedReplica}
use Rattle.encode.proofs.Fronts.{Written}
use Rattle.encode.proofs.pieces.put_replicas.Given as goal

abbrev pub invariant-loop-i : goal.invariant-loop-i
invariant-loop-i l = Written replica_bytes TypedReplica 17 l.at l.initial.row l.row l.replicas l.i
