use Rattle.std.proofs.Common.{refl, sym, ◌∙◌, true, false}
use Rattle.soundness.proofs.Joined.{catalog_there}
use Rattle.soundness.proofs.catalog_sound.Goals as goal

pub returns-then-catalog_tidy : goal.returns-then-catalog_tidy
returns-then-catalog_tidy c =
    catalog_there c.args.catalog.now _ _ _ _ _ c.tables.ensures.rows c.tablets.ensures.rows c.placements.ensures.rows c.retirements.ensures.rows c.marks.ensures true _
    (sym c.if-catalog_tidy.true ∙ c.catalog_tidy.ensures) c.sound_catalog.ensures

pub returns-else-catalog_tidy : goal.returns-else-catalog_tidy
returns-else-catalog_tidy c =
    c.if-catalog_tidy.false ∙ catalog_there c.args.catalog.now _ _ _ _ _ refl refl refl refl refl false _ (sym c.if-catalog_tidy.false ∙ c.catalog_tidy.ensures) refl
