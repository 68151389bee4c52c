use Rattle.std.proofs.Common.{refl, sym, ◌∙◌, true, false}
use Rattle.soundness.proofs.Joined.{directory_there}
use Rattle.soundness.proofs.directory_sound.Goals as goal

pub returns-then-directory_tidy : goal.returns-then-directory_tidy
returns-then-directory_tidy c =
    directory_there c.args.directory.now _ _ c.name.ensures c.nodes.ensures.rows true _ (sym c.if-directory_tidy.true ∙ c.directory_tidy.ensures) c.sound_directory.ensures

pub returns-else-directory_tidy : goal.returns-else-directory_tidy
returns-else-directory_tidy c =
    c.if-directory_tidy.false ∙ directory_there c.args.directory.now _ _ refl refl false _ (sym c.if-directory_tidy.false ∙ c.directory_tidy.ensures) refl
