-- A node's label for a domain, by the place where it stands in the node's row. Assumes nothing.
use Rattle.std.specs.Prelude.{◌≡◌, ℕ, List}
use Rattle.std.proofs.Common.{refl}
use Rattle.decode.specs.Decode.{optional_at}
use Rattle.metadata.specs.Kinds.{label_of}
use Rattle.metadata.specs.declared.kinds.Domain.{Domain}
use Rattle.metadata.specs.declared.kinds.Domain.TheVariants as D
use Rattle.rows.specs.Rows.{node_row, label_place}

pub label_there : (d : Domain) (r : List ℕ) → label_of d (node_row r) ≡ optional_at r (label_place d)
label_there D.Region r = refl
label_there D.Zone r = refl
label_there D.Rack r = refl
