-- Open without them: an opening that is refused, one that is accepted, and the dump behind the lines.
use Rattle.std.proofs.Common.{refl, sym, ◌∙◌}
use Rattle.stored_tapes.proofs.Replaying.{replay_refused, replay_written}
use Rattle.vectors_apply.proofs.Openings.{opened, opened_begun}
use Rattle.vectors_apply.proofs.OneByOneReplayExtent.replay_extent.Goals as goal

pub returns-then-not-is_applied-clause-text : goal.returns-then-not-is_applied-clause-text
returns-then-not-is_applied-clause-text g c =
    replay_written _ _ _ _ _ _ (replay_refused _ _ _ _ _ _ (opened _ _ _ _ _ c.open.ensures refl refl c.in-Ok.is) (sym c.is_applied.ensures ∙ c.if-not-is_applied.true) c.in_ok-print_line.ensures) c.in_ok-dump_store.ensures

pub apply_each-requires-clause-opened : goal.apply_each-requires-clause-opened
apply_each-requires-clause-opened g c = opened_begun _ _ _ (opened _ _ _ _ _ c.open.ensures refl refl c.in-Ok.is) (sym c.is_applied.ensures ∙ c.if-not-is_applied.false)

pub returns-clause-text : goal.returns-clause-text
returns-clause-text g c = replay_written _ _ _ _ _ _ c.in_ok-apply_each.ensures c.in_ok-dump_store-2.ensures
