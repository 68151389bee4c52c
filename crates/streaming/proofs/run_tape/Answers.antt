-- Open without them: each way out of the run of a tape, by the law of an accepted opening or of a refused one.
use Rattle.std.proofs.Common.{refl}
use Rattle.streaming.proofs.Whole.{run_accepted, run_known, run_failed, run_broken_block, run_refused, run_refused_known, run_refused_failed, run_refused_block}
use Rattle.streaming.proofs.run_tape.Goals as goal

pub returns-in-Err-print_line-clause-failed : goal.returns-in-Err-print_line-clause-failed
returns-in-Err-print_line-clause-failed g c =
    run_refused_failed _ _ c.at_hand.ensures.bytes _ _ (g.W.Write.contents c.args.out.now) _ c.read_opening.ensures _ _ c.open_tape-answer.ensures _ c.is_applied.ensures c.if-not-is_applied.true _ c.in_default.is _ _ c.print_line.ensures _

pub returns-in-Err-print_line-clause-block : goal.returns-in-Err-print_line-clause-block
returns-in-Err-print_line-clause-block g c =
    run_refused_block _ _ c.at_hand.ensures.bytes _ _ (g.W.Write.contents c.args.out.now) _ c.read_opening.ensures _ _ c.open_tape-answer.ensures _ c.is_applied.ensures c.if-not-is_applied.true _ c.in_default.is _ _ c.print_line.ensures _ refl _

pub returns-in-Ok-clause-ran : goal.returns-in-Ok-clause-ran
returns-in-Ok-clause-ran g c =
    run_refused _ _ c.at_hand.ensures.bytes _ _ (g.W.Write.contents c.args.out.now) _ c.read_opening.ensures _ _ c.open_tape-answer.ensures _ c.is_applied.ensures c.if-not-is_applied.true _ c.in_default.is _ _ c.print_line.ensures _ c.in-Ok.is

pub returns-in-Ok-clause-whole : goal.returns-in-Ok-clause-whole
returns-in-Ok-clause-whole g c =
    run_refused_known _ _ c.at_hand.ensures.bytes _ _ (g.W.Write.contents c.args.out.now) _ c.read_opening.ensures _ _ c.open_tape-answer.ensures _ c.is_applied.ensures c.if-not-is_applied.true _ c.in_default.is _ _ c.print_line.ensures _ c.in-Ok.is

pub returns-clause-ran : goal.returns-clause-ran
returns-clause-ran g c =
    run_accepted _ _ c.at_hand.ensures.bytes _ _ (g.W.Write.contents c.args.out.now) _ c.read_opening.ensures _ _ c.open_tape-answer.ensures _ c.is_applied.ensures c.if-not-is_applied.false _ c.at_hand-2.ensures.bytes _ c.body_at-at.ensures _ _ _ _ c.run_all.ensures.ok

pub returns-clause-whole : goal.returns-clause-whole
returns-clause-whole g c =
    run_known _ _ c.at_hand.ensures.bytes _ _ (g.W.Write.contents c.args.out.now) _ c.read_opening.ensures _ _ c.open_tape-answer.ensures _ c.is_applied.ensures c.if-not-is_applied.false _ c.at_hand-2.ensures.bytes _ c.body_at-at.ensures _ _ _ _ c.run_all.ensures.ok

pub returns-clause-failed : goal.returns-clause-failed
returns-clause-failed g c =
    run_failed _ _ c.at_hand.ensures.bytes _ _ (g.W.Write.contents c.args.out.now) _ c.read_opening.ensures _ _ c.open_tape-answer.ensures _ c.is_applied.ensures c.if-not-is_applied.false _ c.at_hand-2.ensures.bytes _ c.body_at-at.ensures _ _ _ _ _ c.run_all.ensures.err

pub returns-clause-block : goal.returns-clause-block
returns-clause-block g c =
    run_broken_block _ _ c.at_hand.ensures.bytes _ _ (g.W.Write.contents c.args.out.now) _ c.read_opening.ensures _ _ c.open_tape-answer.ensures _ c.is_applied.ensures c.if-not-is_applied.false _ c.at_hand-2.ensures.bytes _ c.body_at-at.ensures _ _ _ _ _ c.run_all.ensures.err
