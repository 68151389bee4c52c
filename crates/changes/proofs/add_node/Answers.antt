-- Open without them: that the place is among the rows in use, and what the part then is, by one law each, which speak of the rows as a record.
use Rattle.std.specs.Prelude.{◌≡◌, length}
use Rattle.encode.specs.Widths.{node_width}
use Rattle.metadata.specs.Rooms.{node_room}
use Rattle.metadata.specs.Tables.{node_key}
use Rattle.metadata.specs.Sound.{sound_node}
use Rattle.rows.specs.Rows.{node_row}
use Rattle.changes.proofs.Changed.{place_within, added}
use Rattle.changes.proofs.add_node.Goals as goal

pub insert_row-requires-clause-among : goal.insert_row-requires-clause-among
insert_row-requires-clause-among c =
    let e : length c.node_bytes.result ≡ node_width = cc in
    place_within node_key node_row node_width node_room _ c.args.n.now.node_id.0 c.node_bytes.result c.args.part.now _ e c.used.ensures c.place-at.ensures

pub returns : goal.returns
returns c =
    let e : length c.node_bytes.result ≡ node_width = cc in
    added node_key node_row node_width node_room _ c.args.n.now (sound_node c.args.n.now) c.node_bytes.result c.args.part.now _ _ e c.used.ensures c.node_bytes.ensures.read c.place-at.ensures c.insert_row.ensures
