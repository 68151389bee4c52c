use Rattle.std.proofs.Common.{refl, sym, ◌∙◌, true, false}
use Rattle.layout.specs.Layout.{tidy_catalog}
use Rattle.soundness.proofs.Joined.{four}
use Rattle.soundness.proofs.catalog_tidy.Goals as goal

pub returns-then-tablets_tidy : goal.returns-then-tablets_tidy
unfolding tidy_catalog
returns-then-tablets_tidy c = four _ _ _ _ true _ (sym c.if-tablets_tidy.true ∙ c.tablets_tidy.ensures) c.placements_tidy.ensures

pub returns-else-tablets_tidy : goal.returns-else-tablets_tidy
unfolding tidy_catalog
returns-else-tablets_tidy c = c.if-tablets_tidy.false ∙ four _ _ _ _ false _ (sym c.if-tablets_tidy.false ∙ c.tablets_tidy.ensures) refl
