-- Open without it: the dump behind the lines of a run.
use Rattle.stored_tapes.proofs.Replaying.{replay_dumped}
use Rattle.stored_tapes.proofs.tests.AsReadReplay.replay.Goals as goal

pub returns-in-Ok : goal.returns-in-Ok
returns-in-Ok g c =
    let ended = c.in-Ok.ensures.whole in
    replay_dumped _ _ _ _ _ _ (record { rows = ended.rows; wrote = ended.wrote }) c.dump_store.ensures
