-- The last of the old replicas with a number is the first of them from the end. Assumes nothing.
use Rattle.std.specs.List.{find}
use Rattle.std.specs.Prelude.{◌≡◌, ℕ, List, [], ◌∷◌, reverse, Some, None, cond, eqb}
use Rattle.std.proofs.Common.{refl, ap, ◌∙◌}
use Rattle.std.proofs.lemmas.List.{reverse-append}
use Rattle.std.proofs.lemmas.List.Folds.{find-append}
use Rattle.metadata.specs.Placements.{kept_replica, or_else_replica}
use Rattle.metadata.specs.declared.DesiredReplica.{DesiredReplica}

pub kept_is : (k : ℕ) (l : List DesiredReplica) → find (λ o. eqb o.replica_id.0 k) (reverse l) ≡ kept_replica k l
unfolding kept_replica
kept_is k [] = refl
kept_is k (o ∷ l) =
    ap (find (λ o. eqb o.replica_id.0 k)) (reverse-append (o ∷ []) l)
    ∙ find-append (λ o. eqb o.replica_id.0 k) (reverse l) (o ∷ [])
    ∙ ap (λ a. or_else_replica a (cond (eqb o.replica_id.0 k) (Some o) None)) (kept_is k l)
