use Rattle.std.specs.Prelude.{◌≡◌}
use Rattle.stored_tapes.specs.StoredTapes.{Replayed}
use Rattle.stored_tapes.specs.declared.Extent.TheVariants as X
use Rattle.stored_tapes.proofs.replay_extents.Given as goal

abbrev pub invariant-loop : goal.invariant-loop
invariant-loop g l = l.all ≡ X.Whole → Replayed (g.R.Read.remaining l.initial.input) (g.R.Read.remaining l.input) (g.W.Write.contents l.initial.out) (g.W.Write.contents l.out)
