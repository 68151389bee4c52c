use Rattle.std.proofs.Common.{refl, sym, ◌∙◌, true, false}
use Rattle.soundness.proofs.Joined.{store_there}
use Rattle.soundness.proofs.sound.Goals as goal

pub returns-then-directory_sound : goal.returns-then-directory_sound
returns-then-directory_sound c =
    store_there c.args.block.now _ _ true _ c.if-block-ne-STORE_BYTES.false c.directory.ensures.part c.catalog.ensures.part (sym c.if-directory_sound.true ∙ c.directory_sound.ensures) c.catalog_sound.ensures

pub returns-else-directory_sound : goal.returns-else-directory_sound
returns-else-directory_sound c =
    c.if-directory_sound.false ∙ store_there c.args.block.now _ _ false _ c.if-block-ne-STORE_BYTES.false c.directory.ensures.part refl (sym c.if-directory_sound.false ∙ c.directory_sound.ensures) refl
