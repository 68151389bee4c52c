-- The checks of a placement by the rows that the lookups gave. Assumes nothing.
use denote.Ref.{Bor}
use Rattle.std.specs.Option.{is_some, option_map, option_copied}
use Rattle.std.specs.Prelude.{◌≡◌, ℕ, Bool, true, false, not, cond, ◌&&◌, List, [], ◌∷◌, Option, Some, None, leb, length, MatchOption}
use Rattle.std.proofs.Common.{refl, sym, ap, ap₂, ◌∙◌}
use Rattle.laws.specs.Keyed.{Keyed, look, has}
use Rattle.metadata.specs.Answers.{◌⊳◌, and_then, answer_if, each}
use Rattle.metadata.specs.Tables.{tablet_key, placement_key, tablet_of, placement_of, blank_placement, desired, leaders, same_placement}
use Rattle.metadata.specs.Placements.{judge_replica, judge_leader, hosts, judge_domains, judge_kept_replicas, judge_epoch, judge_new_placement, judge_placement}
use Rattle.metadata.specs.Rooms.{tablet_room}
use Rattle.metadata.specs.declared.RaftGroupId.{RaftGroupId}
use Rattle.placements.specs.Domains.{judge_spread}
use Rattle.metadata.specs.declared.Answer.{Answer}
use Rattle.metadata.specs.declared.Answer.TheVariants as A
use Rattle.metadata.specs.declared.kinds.TableKind.TheVariants as K
use Rattle.metadata.specs.declared.NodeDescriptor.{NodeDescriptor}
use Rattle.metadata.specs.declared.TabletDescriptor.{TabletDescriptor}
use Rattle.metadata.specs.declared.DesiredReplicaPlacement.{DesiredReplicaPlacement}
use Rattle.metadata.specs.declared.RetiredReplicaLifetime.{RetiredReplicaLifetime}
use Rattle.placements.specs.Stored.{stored_in, judge_epoch_after, judge_new_after, is_stored}

-- ---- over any type of rows
module _ {A B : Type 0} (T : Keyed A) (b : B) (f : A → B) (k : T.Key) where
  -- what a lookup says, by the row that it found
  abbrev on_row : Option A → B
  on_row None = b
  on_row (Some x) = f x

  on_go : (o : Option A) (x : A) (t : Bool) → cond t (f x) (on_row o) ≡ on_row (cond t (Some x) o)
  on_go o x true = refl
  on_go o x false = refl

  pub look_row : (l : List A) → look T b f k l ≡ on_row (look T None (λ x. Some x) k l)
  look_row [] = refl
  look_row (x ∷ l) = ap (cond (T.eq (T.key x) k) (f x)) (look_row l) ∙ on_go (look T None (λ x. Some x) k l) x (T.eq (T.key x) k)

-- ---- the stored placement
module _ (k : ℕ) (l : List DesiredReplicaPlacement) where
  pub has_stored : has placement_key k l ≡ is_some (stored_in k l)
  has_stored = look_row placement_key false (λ (q : DesiredReplicaPlacement). true) k l

  of_stored : placement_of k l ≡ on_row placement_key blank_placement (λ (q : DesiredReplicaPlacement). q) k (stored_in k l)
  of_stored = look_row placement_key blank_placement (λ (q : DesiredReplicaPlacement). q) k l

-- `judge_domains` by the nodes of the replicas
pub domains_at : (nodes : List NodeDescriptor) (p : DesiredReplicaPlacement) → judge_domains nodes p ≡ judge_spread (hosts nodes (desired p)) p.placement_policy
unfolding judge_domains judge_spread
domains_at nodes p = refl

-- two checks that pass
two_passed : (a b : Bool) (x y z : Answer) → a ≡ true → b ≡ false → (answer_if (not a) x ⊳ answer_if b y ⊳ z) ≡ z
unfolding answer_if and_then
two_passed a b x y z e f = rw (e, f) refl

-- ---- the checks as wholes
module _ (nodes : List NodeDescriptor) (tablets : List TabletDescriptor) (placements : List DesiredReplicaPlacement) (retirements : List RetiredReplicaLifetime) (p : DesiredReplicaPlacement) where
  abbrev group : RaftGroupId
  group = (tablet_of p.tablet_id.0 tablets).raft_group_id

  -- by what is stored and what the definition then reads
  after_go : (o : Option DesiredReplicaPlacement) (t : Bool) (q : DesiredReplicaPlacement) → t ≡ is_some o → q ≡ on_row placement_key blank_placement (λ (x : DesiredReplicaPlacement). x) p.tablet_id.0 o →
      each (judge_replica nodes retirements (desired q) group p.placement_policy.required_storage_class) (desired p)
      ⊳ each (judge_leader nodes) (leaders p.placement_policy)
      ⊳ judge_domains nodes p
      ⊳ cond t (judge_epoch_after (Some q) p) (judge_epoch_after None p)
      ⊳ judge_kept_replicas (desired q) (desired p)
      ⊳ answer_if (not t && leb tablet_room (length placements)) (A.TableFull K.Tablets tablet_room)
      ≡ judge_new_after nodes retirements group o (length placements) p
  after_go None t q e f = rw (e, f)
  after_go (Some r) t q e f = rw (e, f)

  pub new_after : judge_new_placement nodes tablets placements retirements p ≡ judge_new_after nodes retirements group (stored_in p.tablet_id.0 placements) (length placements) p
  unfolding judge_new_placement judge_epoch
  new_after = after_go (stored_in p.tablet_id.0 placements) _ _ (has_stored p.tablet_id.0 placements) (of_stored p.tablet_id.0 placements)

  same_go : (o : Option DesiredReplicaPlacement) (t : Bool) (q : DesiredReplicaPlacement) → t ≡ is_some o → q ≡ on_row placement_key blank_placement (λ (x : DesiredReplicaPlacement). x) p.tablet_id.0 o →
      (t && same_placement q p) ≡ is_stored o p
  same_go None t q e f = rw e
  same_go (Some r) t q e f = rw (e, f)

  pub placed_at :
      judge_placement nodes tablets placements retirements p
      ≡ answer_if (not (has tablet_key p.tablet_id.0 tablets)) (A.UnknownTablet p.tablet_id)
      ⊳ answer_if (is_stored (stored_in p.tablet_id.0 placements) p) A.AlreadyApplied
      ⊳ judge_new_after nodes retirements group (stored_in p.tablet_id.0 placements) (length placements) p
  unfolding judge_placement
  placed_at =
      ap₂
      (λ (t : Bool) (a : Answer). answer_if (not (has tablet_key p.tablet_id.0 tablets)) (A.UnknownTablet p.tablet_id) ⊳ answer_if t A.AlreadyApplied ⊳ a)
      (same_go (stored_in p.tablet_id.0 placements) _ _ (has_stored p.tablet_id.0 placements) (of_stored p.tablet_id.0 placements))
      new_after

  -- past the first two checks, by what was found: t is the tablet, g its group, o the placement that is stored, q that one as it is lent, n how many are stored
  pub past_at : (t : TabletDescriptor) (g : RaftGroupId) (o q : Option DesiredReplicaPlacement) (n : ℕ)
      → has tablet_key p.tablet_id.0 tablets ≡ true → tablet_of p.tablet_id.0 tablets ≡ t → g ≡ t.raft_group_id
      → o ≡ stored_in p.tablet_id.0 placements → q ≡ o → false ≡ is_stored q p → n ≡ length placements
      → judge_placement nodes tablets placements retirements p ≡ judge_new_after nodes retirements g q n p
  past_at t g o q n h e k f a s m =
      let d : stored_in p.tablet_id.0 placements ≡ q = sym (a ∙ f) in
      let w : group ≡ g = ap (λ (x : TabletDescriptor). x.raft_group_id) e ∙ sym k in
      placed_at
      ∙ two_passed _ _ _ _ _ h (ap (λ x. is_stored x p) d ∙ sym s)
      ∙ (λ i. judge_new_after nodes retirements (w i) (d i) (sym m i) p)

-- what is lent of an optional placement, read
pub lent_is : (o : Option (Bor DesiredReplicaPlacement)) → option_map (λ q. q.now) o ≡ option_copied o
lent_is None = refl
lent_is (Some q) = refl

-- what `get` gives, as the placement that is stored
module _ (k : ℕ) (l : List DesiredReplicaPlacement) where
  got_none : (s : Option DesiredReplicaPlacement) → is_some s ≡ false → None ≡ s
  got_none None e = refl
  got_none (Some q) e = cc

  got_some : (s : Option DesiredReplicaPlacement) (q : DesiredReplicaPlacement) → is_some s ≡ true → on_row placement_key blank_placement (λ (x : DesiredReplicaPlacement). x) k s ≡ q → Some q ≡ s
  got_some None q e f = cc
  got_some (Some r) q e f = cc

  pub stored_got : (o : Option DesiredReplicaPlacement) → MatchOption o (has placement_key k l ≡ false) (λ q. (has placement_key k l ≡ true) × (placement_of k l ≡ q)) → o ≡ stored_in k l
  stored_got None h = got_none (stored_in k l) (sym (has_stored k l) ∙ h)
  stored_got (Some q) h = got_some (stored_in k l) q (sym (has_stored k l) ∙ h.0) (sym (of_stored k l) ∙ h.1)
