-- The lines of the name, the marks, the next replica and the first choice. Each ends in the byte 10. Assumes nothing.
use Rattle.std.specs.Prelude.{ℕ, cond, List, ◌++◌, eqb, take, codes, Option, Some, None}
use Rattle.std.specs.List.{flat_map}
use Rattle.row_lines.specs.Pieces.{line_end, number, three_numbers, optional_field}
use Rattle.row_lines.specs.PlacementLines.{node_number, policy_text}
use Rattle.metadata.specs.Marks.{next_replica_id}
use Rattle.metadata.specs.Texts.{OptionalName}
use Rattle.metadata.specs.declared.MetadataAllocatorState.{MetadataAllocatorState}
use Rattle.metadata.specs.declared.ReplicaId.{ReplicaId}
use Rattle.metadata.specs.declared.InitialPlacement.{InitialPlacement}

-- name T
unfoldable pub name_line : OptionalName → List ℕ
name_line t = codes "name" ++ optional_field t ++ line_end

-- marks TABLE TABLET GROUP REPLICA
unfoldable pub marks_line : MetadataAllocatorState → List ℕ
marks_line m =
    codes "marks" ++ three_numbers m.max_table_id m.max_tablet_id m.max_raft_group_id ++ number m.max_replica_id ++ line_end

-- " 17", or " -" where none is left
abbrev pub next_field : Option ReplicaId → List ℕ
next_field (Some id) = number id.0
next_field None = codes " -"

-- replica ID, or replica -
unfoldable pub next_text : MetadataAllocatorState → List ℕ
next_text m = codes " replica" ++ next_field (next_replica_id m)

-- next replica ID, or next replica -
unfoldable pub next_line : MetadataAllocatorState → List ℕ
next_line m = codes "next" ++ next_text m ++ line_end

-- N ..: the used places
unfoldable pub picked_text : InitialPlacement → List ℕ
picked_text p = flat_map node_number (take p.node_count p.nodes)

-- pick N .. factor F minima A B C class - leaders 0; pick - where no node is picked
unfoldable pub pick_line : InitialPlacement → List ℕ
pick_line p =
    cond (eqb p.node_count 0)
    (codes "pick" ++ codes " -" ++ line_end)
    (codes "pick"
    ++ picked_text p
    ++ policy_text p.placement_policy
    ++ number p.placement_policy.preferred_leader_count
    ++ line_end)
