-- Open without them: that the place is among the rows in use, and what the part then is, by one law each, which speak of the rows as a record.
use Rattle.std.specs.Prelude.{◌≡◌, true, length}
use Rattle.encode.specs.Widths.{retirement_width}
use Rattle.metadata.specs.Rooms.{retirement_room}
use Rattle.metadata.specs.Tables.{retirement_key}
use Rattle.rows.specs.Rows.{retirement_row}
use Rattle.changes.proofs.Changed.{place_within, added}
use Rattle.changes.proofs.add_retirement.Goals as goal

pub insert_row-requires-clause-among : goal.insert_row-requires-clause-among
insert_row-requires-clause-among c =
    let e : length c.retirement_bytes.result ≡ retirement_width = cc in
    place_within retirement_key retirement_row retirement_width retirement_room _ (c.args.x.now.raft_group_id.0, c.args.x.now.replica_id.0) c.retirement_bytes.result c.args.part.now _ e c.used.ensures (rw c.key.ensures at c.place-at.ensures)

pub returns : goal.returns
returns c =
    let e : length c.retirement_bytes.result ≡ retirement_width = cc in
    added retirement_key retirement_row retirement_width retirement_room _ c.args.x.now true c.retirement_bytes.result c.args.part.now _ _ e c.used.ensures (λ h. c.retirement_bytes.ensures.read) (rw c.key.ensures at c.place-at.ensures) c.insert_row.ensures
