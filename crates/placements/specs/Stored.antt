-- The checks of a placement against the stored one, where its lookup is at hand. Assumes nothing.
use Rattle.std.specs.Option.{is_some}
use Rattle.std.specs.Prelude.{ℕ, ◌+◌, Bool, false, not, ◌&&◌, List, [], Option, Some, None, leb, eqb}
use Rattle.laws.specs.Keyed.{look}
use Rattle.metadata.specs.Rooms.{tablet_room}
use Rattle.metadata.specs.Marks.{mark_limit}
use Rattle.metadata.specs.Answers.{◌⊳◌, answer_if, each}
use Rattle.metadata.specs.Tables.{placement_key, desired, leaders, same_placement}
use Rattle.metadata.specs.Placements.{judge_replica, judge_leader, judge_domains, judge_kept_replicas}
use Rattle.metadata.specs.declared.Answer.{Answer}
use Rattle.metadata.specs.declared.Answer.TheVariants as A
use Rattle.metadata.specs.declared.kinds.TableKind.TheVariants as K
use Rattle.metadata.specs.declared.RaftGroupId.{RaftGroupId}
use Rattle.metadata.specs.declared.NodeDescriptor.{NodeDescriptor}
use Rattle.metadata.specs.declared.DesiredReplica.{DesiredReplica}
use Rattle.metadata.specs.declared.DesiredReplicaPlacement.{DesiredReplicaPlacement}
use Rattle.metadata.specs.declared.RetiredReplicaLifetime.{RetiredReplicaLifetime}

-- the placement that is stored under a tablet's id, if any
abbrev pub stored_in : ℕ → List DesiredReplicaPlacement → Option DesiredReplicaPlacement
stored_in = look placement_key None (λ (q : DesiredReplicaPlacement). Some q)

-- its replicas; none where no placement is stored
abbrev pub stored_replicas : Option DesiredReplicaPlacement → List DesiredReplica
stored_replicas None = []
stored_replicas (Some q) = desired q

-- the second check of `judge_placement`
abbrev pub is_stored : Option DesiredReplicaPlacement → DesiredReplicaPlacement → Bool
is_stored None p = false
is_stored (Some q) p = same_placement q p

-- `judge_epoch`
abbrev pub judge_epoch_after : Option DesiredReplicaPlacement → DesiredReplicaPlacement → Answer
judge_epoch_after None p = answer_if (not (eqb p.configuration_epoch 1)) (A.InitialPlacementEpoch p.tablet_id p.configuration_epoch)
judge_epoch_after (Some q) p =
    answer_if (eqb q.configuration_epoch mark_limit) (A.PlacementEpochExhausted p.tablet_id)
    ⊳ answer_if (not (eqb p.configuration_epoch (q.configuration_epoch + 1))) (A.PlacementEpochMismatch p.tablet_id (q.configuration_epoch + 1) p.configuration_epoch)

-- the last check of `judge_new_placement`, in a table of count placements
abbrev pub judge_room : Option DesiredReplicaPlacement → ℕ → Answer
judge_room stored count = answer_if (not (is_some stored) && leb tablet_room count) (A.TableFull K.Tablets tablet_room)

-- `judge_new_placement`, in a group and a table of count placements
abbrev pub judge_new_after : List NodeDescriptor → List RetiredReplicaLifetime → RaftGroupId → Option DesiredReplicaPlacement → ℕ → DesiredReplicaPlacement → Answer
judge_new_after nodes retirements group stored count p =
    each (judge_replica nodes retirements (stored_replicas stored) group p.placement_policy.required_storage_class) (desired p)
    ⊳ each (judge_leader nodes) (leaders p.placement_policy)
    ⊳ judge_domains nodes p
    ⊳ judge_epoch_after stored p
    ⊳ judge_kept_replicas (stored_replicas stored) (desired p)
    ⊳ judge_room stored count
