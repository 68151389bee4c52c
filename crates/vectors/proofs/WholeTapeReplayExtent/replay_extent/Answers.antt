-- Open without it: the lines by the law of a run, and the dump behind them.
use Rattle.std.proofs.Common.{refl}
use Rattle.stored_tapes.proofs.Replaying.{replay_written}
use Rattle.vectors.proofs.Printing.{run_told}
use Rattle.vectors.proofs.WholeTapeReplayExtent.replay_extent.Goals as goal

pub returns-clause-text : goal.returns-clause-text
returns-clause-text g c =
    replay_written _ _ _ _ _ _ (run_told _ _ _ _ _ _ _ _ _ c.run-ran.ensures.ran c.run-ran.ensures.out refl c.if-ran.false c.from.ensures c.in_ok-print_answers.ensures) c.in_ok-dump_store.ensures
