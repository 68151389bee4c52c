-- Open without them: that the place that was found is inside, and what the part then is, by one law each.
use Rattle.std.specs.Prelude.{◌<◌, ◌≤◌, length}
use Rattle.std.proofs.Common.{arith, refl}
use Rattle.encode.specs.Widths.{node_width}
use Rattle.metadata.specs.Rooms.{node_room}
use Rattle.metadata.specs.Tables.{node_key, blank_node}
use Rattle.rows.specs.Rows.{node_row}
use Rattle.tables.proofs.Pieces.{few_rows}
use Rattle.changes.proofs.Changed.{found_inside, found_within}
use Rattle.changes.proofs.Lifecycle.{moves, stays}
use Rattle.changes.proofs.move_node.Goals as goal

pub bounds-rows-at : goal.bounds-rows-at
bounds-rows-at c = found_inside node_key node_row _ c.args.k.0 c.used-rows.result.now blank_node c.in-Some.ensures

pub offset_bounds-rows-at : goal.offset_bounds-rows-at
offset_bounds-rows-at c =
    let h : c.in-Some.at < length c.used-rows.result.now = bounds-rows-at c in
    let m : length c.used-rows.result.now ≤ node_room = rw c.used-rows.ensures (few_rows node_width node_room c.args.part.now) in
    omega (arith, h, m)

pub replace_row-requires-clause-among : goal.replace_row-requires-clause-among
replace_row-requires-clause-among c =
    found_within node_key node_row node_width node_room _ c.args.k.0 c.moved-row.result c.args.part.now _ c.moved-row.ensures.long c.used-rows.ensures blank_node c.in-Some.ensures

pub returns-in-Some : goal.returns-in-Some
returns-in-Some c =
    moves c.args.k c.args.to _ c.moved-row.result _ c.args.part.now _ _ c.used-rows.ensures c.in-Some.ensures _ c.moved-row.ensures.long refl c.moved-row.ensures.row c.replace_row.ensures

pub returns-in_default : goal.returns-in_default
returns-in_default c = stays c.args.k c.args.to c.args.part.now _ c.used-rows.ensures c.in_default.ensures
