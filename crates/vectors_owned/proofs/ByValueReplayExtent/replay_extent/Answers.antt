-- Open without them: an opening that is refused, and the dump behind the lines.
use Rattle.std.proofs.Common.{sym, ◌∙◌}
use Rattle.stored_tapes.proofs.Replaying.{replay_refused, replay_written}
use Rattle.vectors_owned.proofs.ByValueReplayExtent.replay_extent.Goals as goal

pub returns-then-not-is_applied-clause-text : goal.returns-then-not-is_applied-clause-text
returns-then-not-is_applied-clause-text g c =
    replay_written _ _ _ _ _ _ (replay_refused _ _ _ _ _ _ c.open_tape-answer.ensures (sym c.is_applied.ensures ∙ c.if-not-is_applied.true) c.in_ok-print_line.ensures) c.in_ok-dump_store.ensures

pub returns-clause-text : goal.returns-clause-text
returns-clause-text g c = replay_written _ _ _ _ _ _ c.in_ok-left.ensures c.in_ok-dump_store-2.ensures
