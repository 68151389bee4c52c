-- Open without them: each way out of the loop, by the law that joins what was run before a turn with what the turn did.
use Rattle.streaming.proofs.Advanced.{after_over, broken_join, advanced_broken}
use Rattle.streaming.proofs.run_all.Goals as goal

pub returns-in-Ok-Over-clause-ok : goal.returns-in-Ok-Over-clause-ok
returns-in-Ok-Over-clause-ok g c = after_over _ _ c.run_buffer.new.buffer _ _ _ _ _ c.loop.invariant.advanced c.in-Ok-Over.ensures.ok c.in-Ok-Over.field-0-is

pub returns-in-Err-clause-err : goal.returns-in-Err-clause-err
returns-in-Err-clause-err g c = broken_join _ _ _ _ _ c.loop.invariant.advanced c.in-Err.ensures.err

pub returns-clause-err : goal.returns-clause-err
returns-clause-err g c = advanced_broken _ _ _ _ _ _ c.loop.invariant.advanced
