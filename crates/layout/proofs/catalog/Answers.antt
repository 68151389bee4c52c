use Rattle.std.proofs.Common.{refl}
use Rattle.layout.specs.Places.{directory_length, catalog_length}
use Rattle.layout.proofs.Parts.{tail_is}
use Rattle.layout.proofs.catalog.Goals as goal

-- all that stands behind the directory
pub returns-clause-part : goal.returns-clause-part
returns-clause-part c = tail_is directory_length catalog_length _ c.args.block.now c.requires refl
