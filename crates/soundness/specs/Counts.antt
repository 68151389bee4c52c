-- What is asked of a placement's numbers: all that `sound_placement` asks but for the class, which is a text. Assumes nothing.
use Rattle.std.specs.Prelude.{Bool, ◌&&◌, [], ◌∷◌, leb, drop}
use Rattle.laws.specs.Lists.{every, none_twice}
use Rattle.laws.specs.Tests.{all_of}
use Rattle.metadata.specs.Commands.{same_host}
use Rattle.metadata.specs.Rooms.{replica_room}
use Rattle.metadata.specs.Tables.{desired, is_zero_replica, is_zero_id}
use Rattle.metadata.specs.declared.DesiredReplicaPlacement.{DesiredReplicaPlacement}
use Rattle.metadata.specs.declared.PlacementPolicy.{PlacementPolicy}

unfoldable pub replicas_sound : DesiredReplicaPlacement → Bool
replicas_sound p = all_of (leb p.replica_count replica_room ∷ every is_zero_replica (drop p.replica_count p.replicas) ∷ none_twice same_host (desired p) ∷ [])

unfoldable pub leaders_sound : PlacementPolicy → Bool
leaders_sound q = leb q.preferred_leader_count replica_room && every is_zero_id (drop q.preferred_leader_count q.preferred_leader_nodes)

unfoldable pub numbers_sound : DesiredReplicaPlacement → Bool
numbers_sound p = replicas_sound p && leaders_sound p.placement_policy
