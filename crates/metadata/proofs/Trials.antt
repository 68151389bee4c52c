-- P1 to P12 of document 01's trials at the boundaries, as one theorem over one list, about the definitions: `trials_right`. Assumes nothing.
use Rattle.text.specs.Texts as W
use Prim.Native.Nat.{ℕ, ◌+◌, ◌-◌}
use mathlib.Core.Path.{◌≡◌, refl}
use mathlib.Core.Bool.{Bool, true, false, ◌&&◌, beq}
use mathlib.Core.List.{List, [], ◌∷◌, ◌++◌}
use lib.Dec.{eqb}
use lib.ListN.{length, replicate}
use Rattle.laws.specs.Bytes.{eq_bytes}
use Rattle.laws.specs.Lists.{tally, none_twice}
use Rattle.laws.specs.Tests.{all_of}
use Rattle.metadata.specs.Rooms.{name_width, label_width, replica_room}
use Rattle.metadata.specs.Texts.{zero_key, no_label, Name, OptionalLabel}
use Rattle.text.specs.Texts.{fits, text_admitted, blank, same_text, is_zero_text, all_zero}
use Rattle.text.specs.Ranges.{lex_leb, overlapb, later_start}
use Rattle.metadata.specs.Labels.{new_label, distinct, regions, zones, racks, locality_gain, better, candidate, step_best, best_of, choose_from, choose, judge_picking}
use Rattle.metadata.specs.Answers.{and_then, reported, report, answer_if, each}
use Rattle.metadata.specs.Tables.{same_node_directory, same_node, same_partition, same_tablet, same_policy, same_placement, sorted, table_key}
use Rattle.metadata.specs.Commands.{Command, naming, registering, lifecycle, tablet, placement, lowest, node_texts_admitted, partition_admitted, replicas_admitted, minima_admitted, leaders_admitted, class_blank}
use Rattle.metadata.specs.Nodes.{
  judge_naming,
  lifecycle_can_advance,
  still_expected,
  judge_lifecycle,
  clash_fields,
  clash,
  judge_new_node,
  judge_known_node,
  judge_registering,
  moved_nodes,
  registered_nodes,
}
use Rattle.metadata.specs.Tablets.{judge_hash, judge_range, judge_new_tablet, judge_tablet, is_replica_retired}
use Rattle.metadata.specs.Placements.{
  stands_already,
  eligible,
  class_differs,
  judge_replica,
  judge_leader,
  judge_domains,
  judge_epoch,
  kept_replica,
  judge_kept_replicas,
  judge_new_placement,
  judge_placement,
}
use Rattle.metadata.specs.Model.{StoreRows, admission, decided, decide}
use Rattle.metadata.specs.Run.{run}
use Rattle.metadata.specs.Opening.{starting_marks, empty_rows}
use Rattle.metadata.specs.declared.Reported.{Reported}
use Rattle.metadata.specs.declared.NodeDescriptor.{NodeDescriptor}
use Rattle.metadata.specs.declared.TabletDescriptor.{TabletDescriptor}
use Rattle.metadata.specs.declared.DesiredReplica.{DesiredReplica}
use Rattle.metadata.specs.declared.DesiredReplicaPlacement.{DesiredReplicaPlacement}
use Rattle.metadata.specs.declared.RetiredReplicaLifetime.{RetiredReplicaLifetime}
use Rattle.metadata.specs.declared.TableRow.{TableRow}

-- ---- small commands

-- a text of two bytes, in 0x21 to 0x7E
abbrev pub name : ℕ → ℕ → Name
name a b = record { len = 2; bytes = (a + 33) ∷ (b + 33) ∷ replicate (name_width - 2) 0 }

abbrev pub label : List ℕ → OptionalLabel
label t = record { present = true; text = record { len = length t; bytes = t ++ replicate (label_width - length t) 0 } }

abbrev pub node : ℕ → OptionalLabel → OptionalLabel → OptionalLabel → ℕ → NodeDescriptor
node k region zone rack life =
    record {
      node_id = record { 0 = k };
      raft_addr = name k 0;
      snapshot_addr = name k 1;
      sql_addr = name k 2;
      admin_addr = name k 3;
      region = region;
      zone = zone;
      rack = rack;
      storage_class = record { len = 1; bytes = 115 ∷ replicate (label_width - 1) 0 };
      lifecycle = life;
    }

abbrev pub plain : ℕ → NodeDescriptor
plain k = node k no_label no_label no_label 0

-- bucket 0 of 1 of table 1, and a Range tablet of it
abbrev pub hash : ℕ → ℕ → TabletDescriptor
hash k group =
    record {
      tablet_id = record { 0 = k };
      table_id = record { 0 = 1 };
      raft_group_id = record { 0 = group };
      tablet_epoch = 1;
      partition = record { kind = 0; bucket = 0; bucket_count = 1; start_key = zero_key; end_key = zero_key };
    }

abbrev pub replica : ℕ → ℕ → DesiredReplica
replica r n = record { replica_id = record { 0 = r }; node_id = record { 0 = n }; role = 0 }

abbrev pub place : ℕ → ℕ → List DesiredReplica → DesiredReplicaPlacement
place k epoch l =
    record {
      tablet_id = record { 0 = k };
      configuration_epoch = epoch;
      replica_count = length l;
      replicas = l ++ replicate (replica_room - length l) (replica 0 0);
      placement_policy =
          record {
            replication_factor = length l;
            min_distinct_regions = 0;
            min_distinct_zones = 0;
            min_distinct_racks = 0;
            required_storage_class = no_label;
            preferred_leader_count = 0;
            preferred_leader_nodes = replicate replica_room (record { 0 = 0 });
          };
    }

abbrev pub retire : ℕ → ℕ → ℕ → RetiredReplicaLifetime
retire group r epoch =
    record {
      raft_group_id = record { 0 = group };
      replica_id = record { 0 = r };
      desired_configuration_epoch = epoch;
      removed_conf_state_version = 1;
      removal_index = 1;
      removal_term = 1;
    }

-- one table, number 1, of one tablet
abbrev pub fresh : StoreRows
fresh = let tables : List TableRow = record { table_id = record { 0 = 1 }; tablet_count = 1 } ∷ [] in empty_rows (sorted table_key tables) (starting_marks tables 5)

abbrev pub same_report : Reported → Reported → Bool
same_report a b = eqb a.number b.number && eq_bytes a.operands b.operands

-- ---- the trials

pub data Trial : Type 0 where
  -- two ranges, whether they overlap, and the later start
  ranges : (ls le rs re : List ℕ) → Bool → List ℕ → Trial
  -- nodes, the answer to picking, and the distinct regions, zones and racks
  picks : List NodeDescriptor → Reported → List ℕ → Trial
  -- commands from a fresh opening, and the answer to one more
  answers : List Command → Command → Reported → Trial

abbrev pub minima : List NodeDescriptor → List ℕ
minima l = distinct (regions (choose l)) ∷ distinct (zones (choose l)) ∷ distinct (racks (choose l)) ∷ []

abbrev pub right : Trial → Bool
right (ranges ls le rs re o s) = beq (overlapb ls le rs re) o && eq_bytes (later_start ls rs) s
right (picks l a ns) = same_report (reported (judge_picking l)) a && eq_bytes (minima l) ns
right (answers cs c a) = same_report (reported (decide (run fresh cs) c)) a

abbrev pub all_right : List Trial → Bool
all_right [] = true
all_right (t ∷ ts) = right t && all_right ts

-- `[]` is unbounded
abbrev pub trials : List Trial
trials =
    let a : List ℕ = 97 ∷ [] in
    let b : List ℕ = 98 ∷ [] in
    let c : List ℕ = 99 ∷ [] in
    let e : List ℕ = 101 ∷ [] in
    let z : List ℕ = 122 ∷ [] in
    let aa : List ℕ = 97 ∷ 97 ∷ [] in
    let r1 : OptionalLabel = label (114 ∷ 49 ∷ []) in
    let r2 : OptionalLabel = label (114 ∷ 50 ∷ []) in
    let z1 : OptionalLabel = label (122 ∷ 49 ∷ []) in
    let z2 : OptionalLabel = label (122 ∷ 50 ∷ []) in
    let z3 : OptionalLabel = label (122 ∷ 51 ∷ []) in
    let k1 : OptionalLabel = label (107 ∷ 49 ∷ []) in
    let two : List Command = naming (name 1 1) ∷ registering (plain 1) ∷ registering (plain 2) ∷ tablet (hash 7 9) ∷ [] in
    -- P1 to P5
    ranges a c c e false c
    ∷ ranges a c b [] true b
    ∷ ranges [] [] z [] true z
    ∷ ranges a b [] a false a
    ∷ ranges a aa aa b false aa
    -- P6 to P8
    ∷ picks (node 1 r1 z1 no_label 0 ∷ node 2 r1 z2 no_label 0 ∷ node 3 r2 z3 k1 0 ∷ []) (report 2 3 1 2) (2 ∷ 3 ∷ 1 ∷ [])
    ∷ picks (plain 4 ∷ plain 6 ∷ plain 8 ∷ plain 9 ∷ []) (report 2 4 6 8) (0 ∷ 0 ∷ 0 ∷ [])
    ∷ picks (node 7 no_label no_label no_label 1 ∷ []) (report 38 0 0 0) (0 ∷ 0 ∷ 0 ∷ [])
    -- P9 and P10
    ∷ answers two (lifecycle (record { 0 = 1 }) 2) (report 15 1 0 2)
    ∷ answers two (lifecycle (record { 0 = 1 }) 0) (report 1 0 0 0)
    -- P11 and P12
    ∷ answers two (placement (place 7 2 (replica 1 1 ∷ replica 2 2 ∷ []))) (report 30 7 2 0)
    ∷ answers (two ++ placement (place 7 1 (replica 1 1 ∷ replica 2 2 ∷ [])) ∷ []) (placement (place 7 1 (replica 2 2 ∷ replica 1 1 ∷ []))) (report 32 7 2 1)
    ∷ []

pub trials_right : all_right trials ≡ true
unfolding tally none_twice all_of fits text_admitted blank same_text W.same_optional W.optional_admitted W.optional_fits is_zero_text all_zero lex_leb W.shares_text new_label distinct locality_gain better candidate step_best best_of choose_from judge_picking and_then answer_if each same_node_directory same_node same_partition same_tablet same_policy same_placement lowest node_texts_admitted partition_admitted replicas_admitted minima_admitted leaders_admitted class_blank judge_naming lifecycle_can_advance still_expected judge_lifecycle clash_fields clash judge_new_node judge_known_node judge_registering moved_nodes registered_nodes judge_hash judge_range judge_new_tablet judge_tablet is_replica_retired stands_already eligible class_differs judge_replica judge_leader judge_domains judge_epoch kept_replica judge_kept_replicas judge_new_placement judge_placement admission decided sorted starting_marks
trials_right = refl
