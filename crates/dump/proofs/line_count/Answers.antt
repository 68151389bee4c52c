-- Open without it: how many rows each part has, by one law.
use Rattle.std.proofs.Common.{arith}
use Rattle.dump.proofs.Gathering.{counted}
use Rattle.dump.proofs.line_count.Goals as goal

pub returns : goal.returns
returns c =
    let lines =
    counted
    c.args.store.now _ _ _ _ _
    (rw c.directory-directory.ensures.part at c.nodes-nodes.ensures.rows)
    (rw c.catalog-catalog.ensures.part at c.tables-tables.ensures.rows)
    (rw c.catalog-catalog.ensures.part at c.tablets-tablets.ensures.rows)
    (rw c.catalog-catalog.ensures.part at c.placements-placements.ensures.rows)
    (rw c.catalog-catalog.ensures.part at c.retirements-retirements.ensures.rows) in
    omega (arith, lines)
