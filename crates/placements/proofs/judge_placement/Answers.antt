-- Open without it: the checks of a new placement, which are those of the definition past its first two. The law takes what was found.
use Rattle.std.proofs.Common.{◌∙◌, sym}
use Rattle.std.proofs.lemmas.List.{length-map}
use Rattle.rows.specs.Rows.{node_rows, tablet_row, tablet_rows, placement_row, placement_rows, retirement_rows}
use Rattle.placements.proofs.Looked.{past_at, lent_is}
use Rattle.placements.proofs.judge_placement.Goals as goal

pub returns : goal.returns
returns c =
    let a = c.args in
    let past = past_at (node_rows a.nodes.now) (tablet_rows a.tablets.now) (placement_rows a.placements.now) (retirement_rows a.retirements.now) a.p.now in
    rw
    (past (tablet_row c.in-Some.t.now) c.group_of.result c.stored_placement-found.result _ _ c.in-Some.ensures.0 c.in-Some.ensures.1 c.group_of.ensures
    c.stored_placement-found.ensures (lent_is c.as_ref-stored.result ∙ c.as_ref-stored.ensures.value)
    c.if-is_stored.ensures (sym (length-map a.placements.now placement_row)))
    c.judge_new_placement.ensures
