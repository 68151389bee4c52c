-- Open without them: the room for an answer, the next turn, and each way out of the walk. Each is found from one law, which `using` on the function would try at every goal.
use Rattle.std.proofs.Common.{rules}
use Rattle.store.proofs.Refusing.{loop_room, loop_next, unknown_room, unknown_done, cut_room, cut_done, end_done}
use Rattle.store.proofs.refused.refuse_commands.Goals as goal

pub write_answer-requires : goal.write_answer-requires
write_answer-requires c = search (rules, loop_room)

pub loop-next-preserved : goal.loop-next-preserved
loop-next-preserved c = search (rules, loop_next)

pub write_answer-requires-in-Unknown : goal.write_answer-requires-in-Unknown
write_answer-requires-in-Unknown c = search (rules, unknown_room)

pub returns-in-Unknown : goal.returns-in-Unknown
returns-in-Unknown c = search (rules, unknown_done)

pub write_answer-requires-in-Cut : goal.write_answer-requires-in-Cut
write_answer-requires-in-Cut c = search (rules, cut_room)

pub returns-in-Cut : goal.returns-in-Cut
returns-in-Cut c = search (rules, cut_done)

pub returns-in-End : goal.returns-in-End
returns-in-End c = search (rules, end_done)
