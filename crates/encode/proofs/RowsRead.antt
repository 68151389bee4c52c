-- What was written as bytes is read back as it was. Assumes nothing.
use Rattle.std.specs.Prelude.{◌≡◌, ◌≢◌, ℕ, ◌+◌, ◌≤◌, true, false, cond, leb, List, [], ◌∷◌, ◌++◌, length, take}
use Rattle.std.specs.Int.{w64, to_le_bytes}
use Rattle.std.proofs.Common.{refl, sym, ap, ◌∙◌, arith, leb-true}
use Rattle.std.proofs.lemmas.Bool.{le-leb}
use Rattle.metadata.specs.Rooms.{replica_room, name_width}
use Rattle.metadata.specs.Texts.{OptionalName, optional_name_fits}
use Rattle.metadata.specs.declared.TableRow.{TableRow}
use Rattle.metadata.specs.declared.NodeDescriptor.{NodeDescriptor}
use Rattle.metadata.specs.declared.NodeId.{NodeId}
use Rattle.metadata.specs.declared.TabletDescriptor.{TabletDescriptor}
use Rattle.metadata.specs.declared.DesiredReplica.{DesiredReplica}
use Rattle.metadata.specs.declared.DesiredReplicaPlacement.{DesiredReplicaPlacement}
use Rattle.metadata.specs.declared.RetiredReplicaLifetime.{RetiredReplicaLifetime}
use Rattle.metadata.specs.declared.MetadataAllocatorState.{MetadataAllocatorState}
use Rattle.metadata.specs.Sound.{sound_node, sound_placement, sound_policy}
use Rattle.laws.proofs.Tests.{each_of}
use Rattle.decode.specs.Decode.{table_at, node_at, tablet_at, replica_at, node_id_at, placement_at, retirement_at}
use Rattle.encode.specs.Encode.{table_bytes, node_bytes, tablet_bytes, replica_bytes, node_id_bytes, placement_bytes, retirement_bytes, marks_bytes, marks_at, name_bytes, name_row}
use Rattle.encode.specs.Typed.{TypedTable, TypedNode, TypedTablet, TypedReplica, TypedId, TypedPlacement, TypedRetirement, TypedMarks}
use Rattle.encode.specs.Widths.{table_width, node_width, tablet_width, placement_width, retirement_width, marks_width, name_row_width}
use Rattle.encode.proofs.FieldsRead.{whole_front, byte_read, number4_read, number8_read, cons_read, text_read, optional_read, list_read, optional_told, length_first, fits_told}
use Rattle.encode.proofs.Fronts.{three_pieces}

module _ (l : List ℕ) where
  pub table_read : (t : TableRow) → TypedTable t → length l ≡ table_width → l ≡ table_bytes t → table_at l 0 ≡ t
  unfolding table_bytes
  table_read t k h e =
      let all = whole_front l h _ e in
      let r1 = number4_read l h 8 (to_le_bytes w64 t.table_id.0) t.tablet_count all refl k.tablet_count in
      let r0 = number8_read l h 0 [] t.table_id.0 r1.0 refl k.table_id in
      rw (r0.1, r1.1)

  pub node_read : (n : NodeDescriptor) → TypedNode n → length l ≡ node_width → l ≡ node_bytes n → sound_node n ≡ true → node_at l 0 ≡ n
  unfolding node_bytes sound_node
  node_read n k h e s =
      let fits = each_of _ s in
      let all = whole_front l h _ e in
      let r9 = byte_read l h 304 _ n.lifecycle all refl in
      let r8 = text_read l h 279 _ n.storage_class r9.0 refl k.storage_class in
      let r7 = optional_read l h 254 _ n.rack r8.0 refl k.rack refl fits.1.1.1.0 in
      let r6 = optional_read l h 229 _ n.zone r7.0 refl k.zone refl fits.1.1.0 in
      let r5 = optional_read l h 204 _ n.region r6.0 refl k.region refl fits.1.0 in
      let r4 = text_read l h 155 _ n.admin_addr r5.0 refl k.admin_addr in
      let r3 = text_read l h 106 _ n.sql_addr r4.0 refl k.sql_addr in
      let r2 = text_read l h 57 _ n.snapshot_addr r3.0 refl k.snapshot_addr in
      let r1 = text_read l h 8 _ n.raft_addr r2.0 refl k.raft_addr in
      let r0 = number8_read l h 0 [] n.node_id.0 r1.0 refl k.node_id in
      rw (r0.1, r1.1, r2.1, r3.1, r4.1, r5.1, r6.1, r7.1, r8.1, r9.1)

  pub tablet_read : (t : TabletDescriptor) → TypedTablet t → length l ≡ tablet_width → l ≡ tablet_bytes t → tablet_at l 0 ≡ t
  unfolding tablet_bytes
  tablet_read t k h e =
      let all = whole_front l h _ e in
      let r8 = text_read l h 74 _ t.partition.end_key all refl k.end_key in
      let r7 = text_read l h 41 _ t.partition.start_key r8.0 refl k.start_key in
      let r6 = number4_read l h 37 _ t.partition.bucket_count r7.0 refl k.bucket_count in
      let r5 = number4_read l h 33 _ t.partition.bucket r6.0 refl k.bucket in
      let r4 = byte_read l h 32 _ t.partition.kind r5.0 refl in
      let r3 = number8_read l h 24 _ t.tablet_epoch r4.0 refl k.tablet_epoch in
      let r2 = number8_read l h 16 _ t.raft_group_id.0 r3.0 refl k.raft_group_id in
      let r1 = number8_read l h 8 _ t.table_id.0 r2.0 refl k.table_id in
      let r0 = number8_read l h 0 [] t.tablet_id.0 r1.0 refl k.tablet_id in
      rw (r0.1, r1.1, r2.1, r3.1, r4.1, r5.1, r6.1, r7.1, r8.1)

  replica_read : {w : ℕ} → length l ≡ w → (at : ℕ) (x : List ℕ) (r : DesiredReplica) → take (at + 17) l ≡ x ++ replica_bytes r → leb (at + 17) w ≡ true → TypedReplica r → (take at l ≡ x) × (replica_at l at ≡ r)
  unfolding replica_bytes
  replica_read {w} h at x r e b k =
      let end : at + 17 ≤ w = omega (arith, leb-true (at + 17) w b) in
      let all : take (at + 16 + 1) l ≡ x ++ to_le_bytes w64 r.replica_id.0 ++ to_le_bytes w64 r.node_id.0 ++ r.role ∷ [] =
      ap (λ (n : ℕ). take n l) (omega arith) ∙ e ∙ sym (three_pieces x (to_le_bytes w64 r.replica_id.0) (to_le_bytes w64 r.node_id.0) (r.role ∷ [])) in
      let middle : at + 8 + 8 ≡ at + 16 = omega arith in
      let r2 = byte_read l h (at + 16) _ r.role all (le-leb (at + 16 + 1) w (omega arith)) in
      let r1 = number8_read l h (at + 8) _ r.node_id.0 (ap (λ (n : ℕ). take n l) middle ∙ r2.0) (le-leb (at + 8 + 8) w (omega arith)) k.node_id in
      let r0 = number8_read l h at x r.replica_id.0 r1.0 (le-leb (at + 8) w (omega arith)) k.replica_id in
      (r0.0, rw (r0.1, r1.1, r2.1))

  id_read : {w : ℕ} → length l ≡ w → (at : ℕ) (x : List ℕ) (n : NodeId) → take (at + 8) l ≡ x ++ node_id_bytes n → leb (at + 8) w ≡ true → TypedId n → (take at l ≡ x) × (node_id_at l at ≡ n)
  unfolding node_id_bytes
  id_read h at x n e b k =
      let r0 = number8_read l h at x n.0 e b k in
      (r0.0, rw r0.1)

  pub placement_read : (p : DesiredReplicaPlacement) → TypedPlacement p → length l ≡ placement_width → l ≡ placement_bytes p → sound_placement p ≡ true → placement_at l 0 ≡ p
  unfolding placement_bytes sound_placement sound_policy
  placement_read p k h e s =
      let fits = each_of _ (each_of _ s).1.1.1.0 in
      let all = whole_front l h _ e in
      let ra = list_read l h node_id_at node_id_bytes 8 TypedId (id_read h) replica_room 178 _ p.placement_policy.preferred_leader_nodes all refl k.leader_room k.preferred_leader_nodes in
      let r9 = byte_read l h 177 _ p.placement_policy.preferred_leader_count ra.0 refl in
      let r8 = optional_read l h 152 _ p.placement_policy.required_storage_class r9.0 refl k.required_storage_class refl fits.1.1.0 in
      let r7 = number4_read l h 148 _ p.placement_policy.min_distinct_racks r8.0 refl k.min_distinct_racks in
      let r6 = number4_read l h 144 _ p.placement_policy.min_distinct_zones r7.0 refl k.min_distinct_zones in
      let r5 = number4_read l h 140 _ p.placement_policy.min_distinct_regions r6.0 refl k.min_distinct_regions in
      let r4 = number4_read l h 136 _ p.placement_policy.replication_factor r5.0 refl k.replication_factor in
      let r3 = list_read l h replica_at replica_bytes 17 TypedReplica (replica_read h) replica_room 17 _ p.replicas r4.0 refl k.room k.replicas in
      let r2 = byte_read l h 16 _ p.replica_count r3.0 refl in
      let r1 = number8_read l h 8 _ p.configuration_epoch r2.0 refl k.configuration_epoch in
      let r0 = number8_read l h 0 [] p.tablet_id.0 r1.0 refl k.tablet_id in
      rw (r0.1, r1.1, r2.1, r3.1, r4.1, r5.1, r6.1, r7.1, r8.1, r9.1, ra.1)

  pub retirement_read : (r : RetiredReplicaLifetime) → TypedRetirement r → length l ≡ retirement_width → l ≡ retirement_bytes r → retirement_at l 0 ≡ r
  unfolding retirement_bytes
  retirement_read r k h e =
      let all = whole_front l h _ e in
      let r5 = number8_read l h 40 _ r.removal_term all refl k.removal_term in
      let r4 = number8_read l h 32 _ r.removal_index r5.0 refl k.removal_index in
      let r3 = number8_read l h 24 _ r.removed_conf_state_version r4.0 refl k.removed_conf_state_version in
      let r2 = number8_read l h 16 _ r.desired_configuration_epoch r3.0 refl k.desired_configuration_epoch in
      let r1 = number8_read l h 8 _ r.replica_id.0 r2.0 refl k.replica_id in
      let r0 = number8_read l h 0 [] r.raft_group_id.0 r1.0 refl k.raft_group_id in
      rw (r0.1, r1.1, r2.1, r3.1, r4.1, r5.1)

  pub marks_read : (m : MetadataAllocatorState) → TypedMarks m → length l ≡ marks_width → l ≡ marks_bytes m → marks_at l ≡ m
  unfolding marks_bytes
  marks_read m k h e =
      let all = whole_front l h _ e in
      let r3 = number8_read l h 24 _ m.max_replica_id all refl k.max_replica_id in
      let r2 = number8_read l h 16 _ m.max_raft_group_id r3.0 refl k.max_raft_group_id in
      let r1 = number8_read l h 8 _ m.max_tablet_id r2.0 refl k.max_tablet_id in
      let r0 = number8_read l h 0 [] m.max_table_id r1.0 refl k.max_table_id in
      rw (r0.1, r1.1, r2.1, r3.1)

  -- a present name has a length that is not 0
  pub name_read : (o : OptionalName) → length o.text.bytes ≡ name_width → length l ≡ name_row_width → l ≡ name_bytes o → optional_name_fits o ≡ true → (o.present ≡ true → o.text.len ≢ 0) → name_row l ≡ o
  unfolding name_bytes
  name_read o k h e s f =
      let t : (o.present ≡ true → o.text.len ≢ 255) × (o.present ≡ false → o.text.len ≡ 0) = fits_told o refl s in
      let r = cons_read l h name_width 0 [] (cond o.present o.text.len 0) o.text.bytes (whole_front l h _ (e ∙ length_first 0 o)) refl k in
      rw (r.1, r.2) (optional_told name_width 0 o.present o.text.len o.text.bytes f t.1)
