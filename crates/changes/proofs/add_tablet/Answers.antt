-- Open without them: that the place is among the rows in use, and what the part then is, by one law each, which speak of the rows as a record.
use Rattle.std.specs.Prelude.{◌≡◌, true, length}
use Rattle.encode.specs.Widths.{tablet_width}
use Rattle.metadata.specs.Rooms.{tablet_room}
use Rattle.metadata.specs.Tables.{tablet_key}
use Rattle.rows.specs.Rows.{tablet_row}
use Rattle.changes.proofs.Changed.{place_within, added}
use Rattle.changes.proofs.add_tablet.Goals as goal

pub insert_row-requires-clause-among : goal.insert_row-requires-clause-among
insert_row-requires-clause-among c =
    let e : length c.tablet_bytes.result ≡ tablet_width = cc in
    place_within tablet_key tablet_row tablet_width tablet_room _ c.args.t.now.tablet_id.0 c.tablet_bytes.result c.args.part.now _ e c.used.ensures c.place-at.ensures

pub returns : goal.returns
returns c =
    let e : length c.tablet_bytes.result ≡ tablet_width = cc in
    added tablet_key tablet_row tablet_width tablet_room _ c.args.t.now true c.tablet_bytes.result c.args.part.now _ _ e c.used.ensures (λ h. c.tablet_bytes.ensures.read) c.place-at.ensures c.insert_row.ensures
