-- What is asked of the rows of nodes, through what they say: v tells the node of a row. Assumes nothing.
use Rattle.std.specs.Prelude.{◌≡◌, ℕ, ◌<◌, ◌≤◌, Bool, true, not, eqb, ltb, false, List, Option, Some, length, get_or, map}
use Rattle.std.proofs.Common.{refl, sym, ap, ◌∙◌, rules, is_lt, nat_cmp}
use Rattle.std.proofs.lemmas.List.{get_or-map, length-map}
use Rattle.laws.specs.Lists.{any}
use Rattle.labels.proofs.Lent.{any_map}
use Rattle.metadata.specs.Labels.{candidate, better, beats, step_best, locality_gain, id_at}
use Rattle.metadata.specs.declared.NodeDescriptor.{NodeDescriptor}
use Rattle.metadata.specs.declared.NodeId.{NodeId}

module _ {A : Type 0} (v : A → NodeDescriptor) (l : List A) where
  -- of an Active node: none of the chosen has its id
  pub is_new : (n : NodeDescriptor) {k : NodeId} {b : Bool} → eqb n.lifecycle 0 ≡ true → k ≡ n.node_id → b ≡ any (λ c. eqb (v c).node_id.0 k.0) l → not b ≡ candidate (map v l) n
  unfolding candidate
  is_new n a e h = rw (h, e, a, any_map (λ (c : NodeDescriptor). eqb c.node_id.0 n.node_id.0) v l) refl

  -- the id at a place that is filled
  pub id_of : (i : ℕ) (x : A) {k : NodeId} → k ≡ (v x).node_id → i < length l → x ≡ get_or l i x → k ≡ id_at (map v l) i
  id_of i x e h g =
      e
      ∙ sym
      (get_or-map (λ (n : NodeDescriptor). n.node_id) (map v l) i (v x) _ (simp length-map h)
      ∙ ap (λ (n : NodeDescriptor). n.node_id) (get_or-map v l i x (v x) h ∙ ap v (sym g)))

-- of two nodes with their gains: the first adds more, less, or the same with the lower id
module _ (l : List NodeDescriptor) (a b : NodeDescriptor) {x y : ℕ} (e : x ≡ locality_gain l a) (f : y ≡ locality_gain l b) where
  pub more : y < x → ltb y x ≡ better l a b
  unfolding better
  more h = search rules

  pub less : x ≤ y → (y ≡ x → ⊥) → eqb y x ≡ better l a b
  unfolding better
  less h k = search rules

  pub tied : y ≡ x → {j k : NodeId} → j ≡ a.node_id → k ≡ b.node_id → is_lt (nat_cmp j.0 k.0) ≡ better l a b
  unfolding better
  tied h p q = search rules

-- a candidate against the best so far, b
module _ (l : List NodeDescriptor) (b : Option NodeDescriptor) (n : NodeDescriptor) (h : true ≡ candidate l n) where
  pub taken : true ≡ beats l b n → Some n ≡ step_best l b n
  unfolding step_best
  taken k = rw (← h, ← k) refl

  pub kept : false ≡ beats l b n → b ≡ step_best l b n
  unfolding step_best
  kept k = rw (← h, ← k) refl
