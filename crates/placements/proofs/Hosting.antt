-- The check of each replica in turn, which keeps what each hands on, as a loop. Assumes nothing.
use Rattle.std.specs.Prelude.{◌≡◌, ℕ, ◌+◌, ◌<◌, ◌≤◌, false, List, [], ◌∷◌, ◌++◌, length, get_or, take, map, Result, Ok, Err, IsErr, IsErrAnd}
use Rattle.std.proofs.Common.{arith, refl, ap, ◌∙◌}
use Rattle.std.proofs.lemmas.List.{map-append, take_more}
use lib.ListN.{length-append}
use lib.Seq.{take_all}
use Rattle.metadata.specs.Answers.{is_applied, each}
use Rattle.metadata.specs.declared.Answer.{Answer}
use Rattle.metadata.specs.declared.Answer.TheVariants as A
use Rattle.metadata.specs.Tables.{node_of}
use Rattle.metadata.specs.declared.NodeDescriptor.{NodeDescriptor}
use Rattle.metadata.specs.declared.DesiredReplica.{DesiredReplica}
use Rattle.metadata.proofs.Each.{EachFrom, each_start, each_next, each_stop, each_end}
use Rattle.placements.specs.HandsOn.{HandsOn}

-- the node of a replica, as `hosts` has it
abbrev pub host_of : List NodeDescriptor → DesiredReplica → NodeDescriptor
host_of nodes r = node_of r.node_id.0 nodes

-- the first i of xs passed f, and ys are what h gives of them, behind v
pub record Hosting {X Y B : Type 0} (f : X → Answer) (h : X → B) (v : Y → B) (xs : List X) (i : ℕ) (ys : List Y) : Type 0 where
  pub judged : EachFrom f xs i
  pub count : length ys ≡ i
  pub done : map v ys ≡ map h (take i xs)

module _ {X Y B : Type 0} {f : X → Answer} {h : X → B} {v : Y → B} {xs : List X} where
  pub hosting_start : Hosting f h v xs 0 []
  hosting_start = record { judged = each_start; count = refl; done = refl }

  module _ {i : ℕ} {ys : List Y} (s : Hosting f h v xs i ys) where
    pub hosting_room : {room : ℕ} → i < length xs → length xs ≤ room → length ys < room
    hosting_room k r = omega (arith, s.count)

    pub hosting_next : (d : X) (y : Y) → i < length xs → f (get_or xs i d) ≡ A.Applied → v y ≡ h (get_or xs i d) → Hosting f h v xs (i + 1) (ys ++ y ∷ [])
    hosting_next d y k e g =
        record {
          judged = each_next d s.judged k e;
          count = simp length-append (omega (arith, s.count));
          done = rw (map-append v ys (y ∷ []), take_more xs i d k, map-append h (take i xs), s.done, g);
        }

    -- the way out by `?`: e is what the check of place i refused with, r what the function returns; the loop goes over xs, which is zs
    pub hosting_refused : {Z : Type 0} {zs : List X} (P : Z → Type 0) (d : X) (r : Result Z Answer) (e : Answer) → xs ≡ zs → i < length xs
        → (f (get_or xs i d) ≡ e) × (is_applied e ≡ false) → IsErr r × IsErrAnd r (λ w. w ≡ e) → HandsOn r (each f zs) P
    hosting_refused P d (Ok z) e q k g u = let z = u.0 in cc
    hosting_refused P d (Err w) e q k g u = rw (u.1, ← q) (each_stop d s.judged k g.0 g.1, g.1)

    pub hosting_judged : length xs ≤ i → each f xs ≡ A.Applied
    hosting_judged k = each_end s.judged k

    pub hosting_done : length xs ≤ i → map v ys ≡ map h xs
    hosting_done k = s.done ∙ ap (map h) (take_all i xs k)

-- for `using` on `judge_replicas`: its loop, with room for each node, and what it hands on
pub ruleset hosting = (hosting_start, hosting_room, hosting_next, hosting_judged, hosting_done)
