-- Open without them: the front of the directory, and what it then is, by one law.
use Rattle.std.specs.Prelude.{◌≡◌, length}
use Rattle.std.proofs.Common.{arith, sym, ◌∙◌}
use Rattle.layout.specs.Places.{name_length}
use Rattle.layout.proofs.Parts.{head_length}
use Rattle.commits.proofs.Parts.{name_given}
use Rattle.commits.proofs.give_name.Goals as goal

pub slice_bounds-copy_from_slice-end-2 : goal.slice_bounds-copy_from_slice-end-2
slice_bounds-copy_from_slice-end-2 c = sym (head_length name_length c.args.directory.now (omega (arith, c.requires)))

pub copy_from_slice-requires : goal.copy_from_slice-requires
copy_from_slice-requires c =
    let e : length c.name_bytes.result ≡ name_length = cc in
    head_length name_length c.args.directory.now (omega (arith, c.requires)) ∙ sym e

pub returns : goal.returns
returns c =
    let e : length c.name_bytes.result ≡ name_length = cc in
    rw c.copy_from_slice.ensures.after (name_given c.args.directory.now c.requires _ c.name_bytes.result e (λ p q. c.name_bytes.ensures.read p (λ h. q)))
