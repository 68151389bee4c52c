-- The checks of each command on the rows that the block holds. Assumes nothing.
use Rattle.std.specs.Prelude.{◌≡◌, ℕ, false, List, Result}
use Rattle.std.proofs.Common.{sym, ap, ◌∙◌}
use Rattle.layout.specs.Layout.{directory_part, catalog_part, nodes_in, nodes_part, tablets_in, tablets_part, placements_in, placements_part, retirements_in, retirements_part, store_of}
use Rattle.metadata.specs.Answers.{Gives, is_applied}
use Rattle.metadata.specs.Labels.{judge_picking}
use Rattle.metadata.specs.Model.{judge}
use Rattle.metadata.specs.Nodes.{judge_registering, judge_lifecycle}
use Rattle.metadata.specs.Placements.{judge_placement}
use Rattle.metadata.specs.Tablets.{judge_retirement}
use Rattle.metadata.specs.declared.Answer.{Answer}
use Rattle.metadata.specs.declared.Command.{Command}
use Rattle.metadata.specs.declared.Command.TheVariants.{Registering as registering, Lifecycle as lifecycle, Placement as placement, Retirement as retirement, Picking as picking}
use Rattle.metadata.specs.declared.DesiredReplicaPlacement.{DesiredReplicaPlacement}
use Rattle.metadata.specs.declared.NodeDescriptor.{NodeDescriptor}
use Rattle.metadata.specs.declared.NodeId.{NodeId}
use Rattle.metadata.specs.declared.RetiredReplicaLifetime.{RetiredReplicaLifetime}
use Rattle.metadata.specs.declared.TabletDescriptor.{TabletDescriptor}

-- d and k are the block's directory and catalog, as they are lent
module _ (b d k : List ℕ) (f : d ≡ directory_part b) (g : k ≡ catalog_part b) (c : Command) where
  module _ (ns : List NodeDescriptor) (p : ns ≡ nodes_in (nodes_part d)) where
    nodes_are : ns ≡ (store_of b).directory.nodes
    unfolding store_of
    nodes_are = p ∙ ap (λ (x : List ℕ). nodes_in (nodes_part x)) f

    pub picking_judged : (a : Answer) → c ≡ picking → (a ≡ judge_picking ns) × (is_applied a ≡ false) → (judge (store_of b) c ≡ a) × (is_applied a ≡ false)
    picking_judged a q h = (rw (q, ← nodes_are) (sym h.0), h.1)

  module _ {X : Type 0} (r : Result X Answer) (ts : List TabletDescriptor) (ps : List DesiredReplicaPlacement) (p : ts ≡ tablets_in (tablets_part k)) (q : ps ≡ placements_in (placements_part k)) where
    tablets_are : ts ≡ (store_of b).catalog.tablets
    unfolding store_of
    tablets_are = p ∙ ap (λ (x : List ℕ). tablets_in (tablets_part x)) g

    placements_are : ps ≡ (store_of b).catalog.placements
    unfolding store_of
    placements_are = q ∙ ap (λ (x : List ℕ). placements_in (placements_part x)) g

    module _ (ns : List NodeDescriptor) (s : ns ≡ nodes_in (nodes_part d)) where
      pub registering_judged : (n : NodeDescriptor) → c ≡ registering n → Gives r (judge_registering ns ts ps n) → Gives r (judge (store_of b) c)
      registering_judged n e h = rw (e, ← nodes_are ns s, ← tablets_are, ← placements_are) h

      pub lifecycle_judged : (n : NodeId) (to : ℕ) → c ≡ lifecycle n to → Gives r (judge_lifecycle ns ts ps n to) → Gives r (judge (store_of b) c)
      lifecycle_judged n to e h = rw (e, ← nodes_are ns s, ← tablets_are, ← placements_are) h

    module _ (xs : List RetiredReplicaLifetime) (s : xs ≡ retirements_in (retirements_part k)) where
      retirements_are : xs ≡ (store_of b).catalog.retirements
      unfolding store_of
      retirements_are = s ∙ ap (λ (x : List ℕ). retirements_in (retirements_part x)) g

      pub retirement_judged : (x : RetiredReplicaLifetime) → c ≡ retirement x → Gives r (judge_retirement ts ps xs x) → Gives r (judge (store_of b) c)
      retirement_judged x e h = rw (e, ← tablets_are, ← placements_are, ← retirements_are) h

      pub placement_judged : (ns : List NodeDescriptor) → ns ≡ nodes_in (nodes_part d) → (x : DesiredReplicaPlacement) → c ≡ placement x → Gives r (judge_placement ns ts ps xs x) → Gives r (judge (store_of b) c)
      placement_judged ns m x e h = rw (e, ← nodes_are ns m, ← tablets_are, ← placements_are, ← retirements_are) h
