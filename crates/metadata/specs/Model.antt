-- The model: what each command is answered, and what an Applied one does, on the tables as lists of rows. Assumes nothing.
use Rattle.std.specs.Prelude.{ℕ, max, true, not, cond, ◌&&◌, List, eqb}
use Rattle.laws.specs.Keyed.{put}
use Rattle.metadata.specs.Marks.{highest}
use Rattle.metadata.specs.Answers.{is_applied, ◌⊳◌, answer_if}
use Rattle.metadata.specs.Tables.{tablet_key, placement_key, retirement_key, desired}
use Rattle.metadata.specs.Commands.{Command, naming, registering, lifecycle, tablet, placement, retirement, picking, faults, lowest, needs_name}
use Rattle.metadata.specs.Labels.{judge_picking}
use Rattle.metadata.specs.Nodes.{judge_naming, judge_lifecycle, judge_registering, moved_nodes, registered_nodes}
use Rattle.metadata.specs.Tablets.{judge_tablet, judge_retirement}
use Rattle.metadata.specs.Placements.{judge_placement}
use Rattle.metadata.specs.declared.Answer.{Answer}
use Rattle.metadata.specs.declared.Answer.TheVariants as A
use Rattle.metadata.specs.Texts.{OptionalName}
use Rattle.metadata.specs.declared.NodeDescriptor.{NodeDescriptor}
use Rattle.metadata.specs.declared.TabletDescriptor.{TabletDescriptor}
use Rattle.metadata.specs.declared.DesiredReplica.{DesiredReplica}
use Rattle.metadata.specs.declared.DesiredReplicaPlacement.{DesiredReplicaPlacement}
use Rattle.metadata.specs.declared.RetiredReplicaLifetime.{RetiredReplicaLifetime}
use Rattle.metadata.specs.declared.TableRow.{TableRow}
use Rattle.metadata.specs.declared.MetadataAllocatorState.{MetadataAllocatorState}

-- the store's two parts, with each table as the list of its rows
pub record DirectoryRows : Type 0 where
  pub name : OptionalName
  pub nodes : List NodeDescriptor

pub record CatalogRows : Type 0 where
  pub tables : List TableRow
  pub tablets : List TabletDescriptor
  pub placements : List DesiredReplicaPlacement
  pub retirements : List RetiredReplicaLifetime
  pub marks : MetadataAllocatorState

pub record StoreRows : Type 0 where
  pub directory : DirectoryRows
  pub catalog : CatalogRows

-- ---- what a command is answered

-- the command's own checks
abbrev pub judge : StoreRows → Command → Answer
judge s (naming t) = judge_naming s.directory.name t
judge s (registering n) = judge_registering s.directory.nodes s.catalog.tablets s.catalog.placements n
judge s (lifecycle k to) = judge_lifecycle s.directory.nodes s.catalog.tablets s.catalog.placements k to
judge s (tablet t) = judge_tablet s.catalog.tables s.catalog.tablets t
judge s (placement p) = judge_placement s.directory.nodes s.catalog.tablets s.catalog.placements s.catalog.retirements p
judge s (retirement x) = judge_retirement s.catalog.tablets s.catalog.placements s.catalog.retirements x
judge s picking = judge_picking s.directory.nodes

-- "10 InvalidCommand (reason)"
unfoldable pub admission : Command → Answer
admission c = answer_if (not (eqb (lowest (faults c)) 0)) (A.InvalidCommand (lowest (faults c)))

-- "all commands": 10; "11 NotInitialized, except naming and picking"; then the command's own checks, which answered so
unfoldable pub decided : OptionalName → Command → Answer → Answer
decided name c judged = admission c ⊳ answer_if (needs_name c && not name.present) A.NotInitialized ⊳ judged

abbrev pub decide : StoreRows → Command → Answer
decide s c = decided s.directory.name c (judge s c)

-- ---- what an Applied command does

-- "An Applied tablet raises the tablet and group marks, .. each to the largest seen"
abbrev pub raised_by_tablet : TabletDescriptor → MetadataAllocatorState → MetadataAllocatorState
raised_by_tablet t m = record m { max_tablet_id = max m.max_tablet_id t.tablet_id.0; max_raft_group_id = max m.max_raft_group_id t.raft_group_id.0 }

abbrev pub highest_replica : List DesiredReplica → ℕ → ℕ
highest_replica = highest (λ r. r.replica_id.0)

-- "an Applied placement the replica mark"
abbrev pub raised_by_placement : DesiredReplicaPlacement → MetadataAllocatorState → MetadataAllocatorState
raised_by_placement p m = record m { max_replica_id = highest_replica (desired p) m.max_replica_id }

abbrev pub with_directory : StoreRows → DirectoryRows → StoreRows
with_directory s d = record s { directory = d }

abbrev pub with_catalog : StoreRows → CatalogRows → StoreRows
with_catalog s c = record s { catalog = c }

abbrev pub apply : StoreRows → Command → StoreRows
apply s (naming t) = with_directory s (record s.directory { name = record { present = true; text = t } })
apply s (registering n) = with_directory s (record s.directory { nodes = registered_nodes n s.directory.nodes })
apply s (lifecycle k to) = with_directory s (record s.directory { nodes = moved_nodes k to s.directory.nodes })
apply s (tablet t) =
    with_catalog s (record s.catalog { tablets = put tablet_key t s.catalog.tablets; marks = raised_by_tablet t s.catalog.marks })
apply s (placement p) =
    with_catalog s (record s.catalog { placements = put placement_key p s.catalog.placements; marks = raised_by_placement p s.catalog.marks })
apply s (retirement x) = with_catalog s (record s.catalog { retirements = put retirement_key x s.catalog.retirements })
apply s picking = s

-- ---- a step

-- what a command is answered, and the rows that it leaves
pub record Outcome : Type 0 where
  pub answer : Answer
  pub rows : StoreRows

-- decided, then applied where the answer is Applied, else nothing
abbrev pub step : StoreRows → Command → Outcome
step s c = record { answer = decide s c; rows = cond (is_applied (decide s c)) (apply s c) s }
