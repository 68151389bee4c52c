-- Open without them: that the place is among the rows in use, and what the part then is, by one law each, which speak of the rows as a record.
use Rattle.std.specs.Prelude.{◌≡◌, true, length}
use Rattle.encode.specs.Widths.{table_width}
use Rattle.metadata.specs.Rooms.{table_room}
use Rattle.metadata.specs.Tables.{table_key}
use Rattle.rows.specs.Rows.{table_row}
use Rattle.changes.proofs.Changed.{place_within, added}
use Rattle.changes.proofs.add_table.Goals as goal

pub insert_row-requires-clause-among : goal.insert_row-requires-clause-among
insert_row-requires-clause-among c =
    let e : length c.table_bytes.result ≡ table_width = cc in
    place_within table_key table_row table_width table_room _ c.args.t.now.table_id.0 c.table_bytes.result c.args.part.now _ e c.used.ensures c.place-at.ensures

pub returns : goal.returns
returns c =
    let e : length c.table_bytes.result ≡ table_width = cc in
    added table_key table_row table_width table_room _ c.args.t.now true c.table_bytes.result c.args.part.now _ _ e c.used.ensures (λ h. c.table_bytes.ensures.read) c.place-at.ensures c.insert_row.ensures
