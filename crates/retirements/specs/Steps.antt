-- Steps of the checks of a retirement that have a function of their own here, by the rows that were looked up. Assumes nothing.
use Rattle.std.specs.Prelude.{ℕ, not, cond, List, leb, eqb, length}
use Rattle.metadata.specs.Rooms.{retirement_room}
use Rattle.metadata.specs.Answers.{◌⊳◌, answer_if}
use Rattle.metadata.specs.Tables.{same_retirement}
use Rattle.metadata.specs.declared.Answer.{Answer}
use Rattle.metadata.specs.declared.Answer.TheVariants as A
use Rattle.metadata.specs.declared.kinds.TableKind.TheVariants as K
use Rattle.metadata.specs.declared.TabletId.{TabletId}
use Rattle.metadata.specs.declared.RetiredReplicaLifetime.{RetiredReplicaLifetime}

-- judge_known_retirement, where the row is at hand
abbrev pub judge_known_row : RetiredReplicaLifetime → RetiredReplicaLifetime → Answer
judge_known_row known x = cond (same_retirement known x) A.AlreadyApplied (A.RetirementProofConflict x.raft_group_id x.replica_id)

-- judge_new_retirement, where the tablet has a placement and its epoch is at hand
abbrev pub judge_new_row : TabletId → ℕ → List RetiredReplicaLifetime → RetiredReplicaLifetime → Answer
judge_new_row tablet stored retirements x =
    answer_if (not (eqb x.desired_configuration_epoch stored)) (A.PlacementEpochMismatch tablet stored x.desired_configuration_epoch)
    ⊳ answer_if (leb retirement_room (length retirements)) (A.TableFull K.Retirements retirement_room)
