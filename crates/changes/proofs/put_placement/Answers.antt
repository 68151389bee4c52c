-- Open without them: that the place is among the rows in use, and what the part then is, by one law each, which speak of the rows as a record.
use Rattle.std.specs.Prelude.{◌≡◌, length}
use Rattle.encode.specs.Widths.{placement_width}
use Rattle.metadata.specs.Rooms.{tablet_room}
use Rattle.metadata.specs.Sound.{sound_placement}
use Rattle.metadata.specs.Tables.{placement_key, blank_placement}
use Rattle.rows.specs.Rows.{placement_row}
use Rattle.changes.proofs.Changed.{place_within, found_within, put_new, put_again}
use Rattle.changes.proofs.put_placement.Goals as goal

pub replace_row-requires-clause-among : goal.replace_row-requires-clause-among
replace_row-requires-clause-among c =
    let e : length c.placement_bytes-row.result ≡ placement_width = cc in
    found_within placement_key placement_row placement_width tablet_room _ c.args.p.now.tablet_id.0 c.placement_bytes-row.result c.args.part.now _ e c.used-rows.ensures blank_placement c.in-Some.ensures

pub insert_row-requires-clause-among : goal.insert_row-requires-clause-among
insert_row-requires-clause-among c =
    let e : length c.placement_bytes-row.result ≡ placement_width = cc in
    place_within placement_key placement_row placement_width tablet_room _ c.args.p.now.tablet_id.0 c.placement_bytes-row.result c.args.part.now _ e c.used-rows.ensures c.place-at.ensures

pub returns-in-Some : goal.returns-in-Some
returns-in-Some c =
    let e : length c.placement_bytes-row.result ≡ placement_width = cc in
    put_again placement_key placement_row placement_width tablet_room _ c.args.p.now (sound_placement c.args.p.now) c.placement_bytes-row.result c.args.part.now _ _ e c.used-rows.ensures c.placement_bytes-row.ensures.read c.in-Some.ensures c.replace_row.ensures

pub returns-in-None : goal.returns-in-None
returns-in-None c =
    let e : length c.placement_bytes-row.result ≡ placement_width = cc in
    put_new placement_key placement_row placement_width tablet_room _ c.args.p.now (sound_placement c.args.p.now) c.placement_bytes-row.result c.args.part.now _ _ e c.used-rows.ensures c.placement_bytes-row.ensures.read c.in-None.ensures c.place-at.ensures c.insert_row.ensures
