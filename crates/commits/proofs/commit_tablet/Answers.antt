-- Open without it: what the catalog then is, by one law, which speaks of the marks' bytes.
use Rattle.std.specs.Prelude.{◌≡◌, length}
use Rattle.std.proofs.Common.{refl}
use Rattle.layout.specs.Places.{marks_length}
use Rattle.commits.proofs.Parts.{tablet_added}
use Rattle.commits.proofs.commit_tablet.Goals as goal

pub returns : goal.returns
returns c =
    let e : length c.marks_bytes.result ≡ marks_length = cc in
    rw c.copy_from_slice.ensures.after (tablet_added c.args.catalog.now c.requires _ c.marks_bytes.result _ _ e c.marks_bytes.ensures.read c.marks-high.ensures c.args.t.now c.add_tablet.new.part c.add_tablet.ensures refl c.raise_by_tablet.ensures)
