-- Tablets, retirement and completeness (document 01, port items 7, 8 and 10). Assumes nothing.
use Rattle.std.specs.Prelude.{ℕ, Bool, not, cond, ◌&&◌, List, leb, eqb, length}
use Rattle.laws.specs.Keyed.{has, row}
use Rattle.laws.specs.Lists.{any, tally}
use Rattle.metadata.specs.Kinds.{hash_kind, range_kind}
use Rattle.metadata.specs.Rooms.{tablet_room, retirement_room}
use Rattle.metadata.specs.Texts.{key_text}
use Rattle.text.specs.Ranges.{overlapb}
use Rattle.metadata.specs.Answers.{◌⊳◌, answer_if, each}
use Rattle.metadata.specs.Tables.{
  table_key,
  tablet_key,
  group_key,
  placement_key,
  retirement_key,
  table_of,
  tablet_of,
  tablet_of_group,
  placement_of,
  desired,
  same_tablet,
  same_retirement,
  blank_retirement,
}
use Rattle.metadata.specs.declared.Answer.{Answer}
use Rattle.metadata.specs.declared.Answer.TheVariants as A
use Rattle.metadata.specs.declared.kinds.TableKind.TheVariants as K
use Rattle.metadata.specs.declared.TableRow.{TableRow}
use Rattle.metadata.specs.declared.TableId.{TableId}
use Rattle.metadata.specs.declared.PartitionSpec.{PartitionSpec}
use Rattle.metadata.specs.declared.TabletDescriptor.{TabletDescriptor}
use Rattle.metadata.specs.declared.DesiredReplica.{DesiredReplica}
use Rattle.metadata.specs.declared.DesiredReplicaPlacement.{DesiredReplicaPlacement}
use Rattle.metadata.specs.declared.RetiredReplicaLifetime.{RetiredReplicaLifetime}

-- ---- tablets

abbrev pub is_hash : TabletDescriptor → Bool
is_hash t = eqb t.partition.kind hash_kind

abbrev pub is_range : TabletDescriptor → Bool
is_range t = eqb t.partition.kind range_kind

abbrev pub in_table : TableId → TabletDescriptor → Bool
in_table k t = eqb t.table_id.0 k.0

-- a Hash tablet of the table that has the bucket
abbrev pub holds_bucket : TableId → ℕ → TabletDescriptor → Bool
holds_bucket k bucket t = is_hash t && (in_table k t && eqb t.partition.bucket bucket)

-- 21 PartitionCountMismatch, 22 PartitionConflict, 23 TabletCountExceeded; "Range tablets count in 23"
unfoldable pub judge_hash : List TableRow → List TabletDescriptor → TabletDescriptor → Answer
judge_hash tables tablets t =
    let limit : ℕ = (table_of t.table_id.0 tables).tablet_count in
    answer_if (not (eqb t.partition.bucket_count limit)) (A.PartitionCountMismatch t.table_id limit t.partition.bucket_count)
    ⊳ answer_if (any (holds_bucket t.table_id t.partition.bucket) tablets) (A.PartitionConflict t.table_id t.partition.bucket)
    ⊳ answer_if (leb limit (tally (in_table t.table_id) tablets)) (A.TabletCountExceeded t.table_id limit)

-- the ranges of two tablets overlap
abbrev pub partitions_overlap : PartitionSpec → PartitionSpec → Bool
partitions_overlap a b = overlapb (key_text a.start_key) (key_text a.end_key) (key_text b.start_key) (key_text b.end_key)

-- "24 overlap (lowest overlapping tablet id)"
abbrev pub overlap_at : TabletDescriptor → TabletDescriptor → Answer
overlap_at t old =
    answer_if (is_range old && (in_table t.table_id old && partitions_overlap t.partition old.partition)) (A.RangeOverlap old.tablet_id)

unfoldable pub judge_range : List TabletDescriptor → TabletDescriptor → Answer
judge_range tablets t = each (overlap_at t) tablets

-- "19 RaftGroupConflict (group); 20 UnknownTable (table)", then by kind; 39 last
unfoldable pub judge_new_tablet : List TableRow → List TabletDescriptor → TabletDescriptor → Answer
judge_new_tablet tables tablets t =
    answer_if (has group_key t.raft_group_id.0 tablets) (A.RaftGroupConflict t.raft_group_id)
    ⊳ answer_if (not (has table_key t.table_id.0 tables)) (A.UnknownTable t.table_id)
    ⊳ cond (is_hash t) (judge_hash tables tablets t) (judge_range tablets t)
    ⊳ answer_if (leb tablet_room (length tablets)) (A.TableFull K.Tablets tablet_room)

-- "id known: AlreadyApplied if equal, else 18 TabletIdConflict (tablet)"
unfoldable pub judge_tablet : List TableRow → List TabletDescriptor → TabletDescriptor → Answer
judge_tablet tables tablets t =
    cond (has tablet_key t.tablet_id.0 tablets)
    (cond (same_tablet (tablet_of t.tablet_id.0 tablets) t) A.AlreadyApplied (A.TabletIdConflict t.tablet_id))
    (judge_new_tablet tables tablets t)

-- ---- retirement

-- retired in its group
unfoldable pub is_replica_retired : ℕ → ℕ → List RetiredReplicaLifetime → Bool
is_replica_retired group replica retirements = has retirement_key (group, replica) retirements

abbrev pub retirement_of : ℕ → ℕ → List RetiredReplicaLifetime → RetiredReplicaLifetime
retirement_of group replica = row retirement_key blank_retirement (group, replica)

-- the replica number is desired
unfoldable pub desires : ℕ → DesiredReplicaPlacement → Bool
desires replica p = any (λ (r : DesiredReplica). eqb r.replica_id.0 replica) (desired p)

-- "known: AlreadyApplied if equal, else 37 RetirementProofConflict"
unfoldable pub judge_known_retirement : List RetiredReplicaLifetime → RetiredReplicaLifetime → Answer
judge_known_retirement retirements x =
    cond (same_retirement (retirement_of x.raft_group_id.0 x.replica_id.0 retirements) x)
    A.AlreadyApplied
    (A.RetirementProofConflict x.raft_group_id x.replica_id)

-- "25 if the tablet has no placement; 32"; 39 last
unfoldable pub judge_new_retirement : TabletDescriptor → List DesiredReplicaPlacement → List RetiredReplicaLifetime → RetiredReplicaLifetime → Answer
judge_new_retirement t placements retirements x =
    let stored : ℕ = (placement_of t.tablet_id.0 placements).configuration_epoch in
    answer_if (not (has placement_key t.tablet_id.0 placements)) (A.UnknownTablet t.tablet_id)
    ⊳ answer_if (not (eqb x.desired_configuration_epoch stored)) (A.PlacementEpochMismatch t.tablet_id stored x.desired_configuration_epoch)
    ⊳ answer_if (leb retirement_room (length retirements)) (A.TableFull K.Retirements retirement_room)

-- "35 UnknownRaftGroup (group); 36 RetirementStillDesired (group, replica)"
unfoldable pub judge_retirement : List TabletDescriptor → List DesiredReplicaPlacement → List RetiredReplicaLifetime → RetiredReplicaLifetime → Answer
judge_retirement tablets placements retirements x =
    let t : TabletDescriptor = tablet_of_group x.raft_group_id.0 tablets in
    answer_if (not (has group_key x.raft_group_id.0 tablets)) (A.UnknownRaftGroup x.raft_group_id)
    ⊳ answer_if (desires x.replica_id.0 (placement_of t.tablet_id.0 placements)) (A.RetirementStillDesired x.raft_group_id x.replica_id)
    ⊳ cond (is_replica_retired x.raft_group_id.0 x.replica_id.0 retirements)
    (judge_known_retirement retirements x)
    (judge_new_retirement t placements retirements x)

-- ---- completeness: "Per table, yes when its number of tablets equals its tablet count; no for an unknown table"

unfoldable pub is_complete : TableId → List TableRow → List TabletDescriptor → Bool
is_complete k tables tablets = has table_key k.0 tables && eqb (tally (in_table k) tablets) (table_of k.0 tables).tablet_count
