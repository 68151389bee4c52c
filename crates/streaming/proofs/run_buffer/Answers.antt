-- Open without them: each way out of a run_buffer. The function knows too many facts for a search: each law is given those that it stands on.
use Rattle.std.proofs.Common.{refl, ◌∙◌, arith}
use Rattle.streaming.proofs.AfterBuffers.{run_broken, run_full, run_stopped, chunk_inside, read_on, read_broken, end_known, end_broken, end_over}
use Rattle.streaming.proofs.run_buffer.Goals as goal

pub returns-in-Err-clause-err : goal.returns-in-Err-clause-err
returns-in-Err-clause-err g c =
    run_broken c.args.buffer.now c.args.from.at c.args.from.line _ c.at_hand.ensures.bytes c.at_hand.ensures.count c.requires.1 c.args.store.now c.run_chunk-chunk.new.store _ _ c.clear.ensures c.run_chunk-chunk.result _ c.run_chunk-chunk.ensures
    (g.R.Read.remaining c.args.input.now) _ _ _ (c.as_bytes.ensures.value ∙ c.deref.ensures.0) _ c.emit.ensures

pub finish-requires : goal.finish-requires
finish-requires g c =
    end_known c.args.buffer.now c.args.from.at c.args.from.line _ c.at_hand.ensures.bytes c.at_hand.ensures.count c.requires.1 c.args.store.now c.run_chunk-chunk.new.store _ _ c.clear.ensures c.run_chunk-chunk.result _ c.run_chunk-chunk.ensures
    (g.R.Read.remaining c.args.input.now) _ _ _ (c.as_bytes.ensures.value ∙ c.deref.ensures.0) _ c.emit.ensures _ c.in_default.is
    c.in-Short.is c.refill.new.self _ _ c.refill.ensures _ c.in-Ok-eq0.is c.in-Ok-eq0.field-0-test _ c.at_hand-in-Ok-eq0.ensures.bytes

pub returns-in-Stopped-clause-ok : goal.returns-in-Stopped-clause-ok
returns-in-Stopped-clause-ok g c =
    run_stopped c.args.buffer.now c.args.from.at c.args.from.line _ c.at_hand.ensures.bytes c.at_hand.ensures.count c.requires.1 c.args.store.now c.run_chunk-chunk.new.store _ _ c.clear.ensures c.run_chunk-chunk.result _ c.run_chunk-chunk.ensures
    (g.R.Read.remaining c.args.input.now) _ _ _ (c.as_bytes.ensures.value ∙ c.deref.ensures.0) _ c.emit.ensures _ c.in_default.is c.in-Stopped.is

pub returns-in-Full-clause-ok : goal.returns-in-Full-clause-ok
returns-in-Full-clause-ok g c = (
  chunk_inside c.args.buffer.now c.args.from.at c.args.from.line _ c.at_hand.ensures.bytes c.at_hand.ensures.count c.requires.1 c.args.store.now c.run_chunk-chunk.new.store _ _ c.clear.ensures c.run_chunk-chunk.result _ c.run_chunk-chunk.ensures (g.R.Read.remaining c.args.input.now) (g.W.Write.contents c.args.out.now) (g.W.Write.contents c.emit.new.to) _ refl,
  run_full c.args.buffer.now c.args.from.at c.args.from.line _ c.at_hand.ensures.bytes c.at_hand.ensures.count c.requires.1 c.args.store.now c.run_chunk-chunk.new.store _ _ c.clear.ensures c.run_chunk-chunk.result _ c.run_chunk-chunk.ensures
      (g.R.Read.remaining c.args.input.now) _ _ _ (c.as_bytes.ensures.value ∙ c.deref.ensures.0) _ c.emit.ensures _ c.in_default.is c.in-Full.is,
)

pub returns-in-Err-refill-clause-err : goal.returns-in-Err-refill-clause-err
returns-in-Err-refill-clause-err g c =
    read_broken c.args.buffer.now c.args.from.at c.args.from.line _ c.at_hand.ensures.bytes c.at_hand.ensures.count c.requires.1 c.args.store.now c.run_chunk-chunk.new.store _ _ c.clear.ensures c.run_chunk-chunk.result _ c.run_chunk-chunk.ensures
    (g.R.Read.remaining c.args.input.now) _ _ _ (c.as_bytes.ensures.value ∙ c.deref.ensures.0) _ c.emit.ensures _ c.in_default.is
    c.in-Short.is c.refill.new.self _ _ c.refill.ensures

pub returns-in-Err-finish-clause-err : goal.returns-in-Err-finish-clause-err
returns-in-Err-finish-clause-err g c =
    end_broken c.args.buffer.now c.args.from.at c.args.from.line _ c.at_hand.ensures.bytes c.at_hand.ensures.count c.requires.1 c.args.store.now c.run_chunk-chunk.new.store _ _ c.clear.ensures c.run_chunk-chunk.result _ c.run_chunk-chunk.ensures
    (g.R.Read.remaining c.args.input.now) _ _ _ (c.as_bytes.ensures.value ∙ c.deref.ensures.0) _ c.emit.ensures _ c.in_default.is
    c.in-Short.is c.refill.new.self _ _ c.refill.ensures _ c.in-Ok-eq0.is c.in-Ok-eq0.field-0-test _ c.at_hand-in-Ok-eq0.ensures.bytes (g.W.Write.contents c.finish.new.out) _ c.finish.ensures.sent

pub returns-in-Ok-finish-clause-ok : goal.returns-in-Ok-finish-clause-ok
returns-in-Ok-finish-clause-ok g c =
    end_over c.args.buffer.now c.args.from.at c.args.from.line _ c.at_hand.ensures.bytes c.at_hand.ensures.count c.requires.1 c.args.store.now c.run_chunk-chunk.new.store _ _ c.clear.ensures c.run_chunk-chunk.result _ c.run_chunk-chunk.ensures
    (g.R.Read.remaining c.args.input.now) _ _ _ (c.as_bytes.ensures.value ∙ c.deref.ensures.0) _ c.emit.ensures _ c.in_default.is
    c.in-Short.is c.refill.new.self _ _ c.refill.ensures _ c.in-Ok-eq0.is c.in-Ok-eq0.field-0-test _ c.at_hand-in-Ok-eq0.ensures.bytes (g.W.Write.contents c.finish.new.out) _ c.finish.ensures.sent _ c.in-Ok-finish.is _ c.in-Ok-finish.ensures.how

pub returns-in-Ok-clause-ok : goal.returns-in-Ok-clause-ok
returns-in-Ok-clause-ok g c = (
  omega arith,
  read_on c.args.buffer.now c.args.from.at c.args.from.line _ c.at_hand.ensures.bytes c.at_hand.ensures.count c.requires.1 c.args.store.now c.run_chunk-chunk.new.store _ _ c.clear.ensures c.run_chunk-chunk.result _ c.run_chunk-chunk.ensures
      (g.R.Read.remaining c.args.input.now) _ _ _ (c.as_bytes.ensures.value ∙ c.deref.ensures.0) _ c.emit.ensures _ c.in_default.is
      c.in-Short.is c.refill.new.self _ _ c.refill.ensures,
)
