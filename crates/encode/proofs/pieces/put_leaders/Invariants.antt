use Rattle.encode.specs.Encode.{node_id_bytes}
use Rattle.encode.specs.Typed.{TypedId}
use Rattle.encode.proofs.Fronts.{Written}
use Rattle.encode.proofs.pieces.put_leaders.Given as goal

abbrev pub invariant-loop-i : goal.invariant-loop-i
invariant-loop-i l = Written node_id_bytes TypedId 8 l.at l.initial.row l.row l.nodes l.i
