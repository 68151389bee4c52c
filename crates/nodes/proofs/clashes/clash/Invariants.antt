-- The row at hand is said by its place: the inner loop reads what was taken from it, and not the row.
use Rattle.std.proofs.Common.{◌≡◌, None, [], slice_index_or}
use Rattle.nodes.proofs.Endpoints.{Fields, Rows}
use Rattle.nodes.proofs.clashes.clash.Given as goal
use Rattle.rows.specs.Rows.{node_row}

abbrev pub invariant-loop-j : goal.invariant-loop-j
invariant-loop-j l = Fields (λ e. e.now) (node_row (slice_index_or l.nodes l.old-index [])) l.new l.existing l.t-items l.j × (l.found ≡ None)

abbrev pub invariant-rows : goal.invariant-rows
invariant-rows l = Rows node_row l.new l.nodes l.old-index l.found
