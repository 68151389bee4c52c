use Rattle.dump.proofs.Catalog.{a_table, a_tablet, a_placement, a_retirement, a_mark}
use Rattle.layout.specs.Layout.{catalog_of}
use Rattle.dump.proofs.put_catalog_at.Goals as goal

pub returns-in_err-j : goal.returns-in_err-j
returns-in_err-j c =
    rw c.from_residual.ensures
    (a_table (catalog_of c.args.catalog.now) (rw (c.tables.ensures.rows, c.tablets-tablets.ensures.rows) at c.in_err-j.ensures))

pub returns-in_err-j-2 : goal.returns-in_err-j-2
returns-in_err-j-2 c =
    rw c.from_residual-in_err-j-2.ensures
    (a_tablet
    (catalog_of c.args.catalog.now)
    (rw (c.tables.ensures.rows, c.tablets-tablets.ensures.rows) at c.in_ok-j.ensures)
    (rw c.tablets-tablets.ensures.rows at c.in_err-j-2.ensures))

pub returns-in_err-j-3 : goal.returns-in_err-j-3
returns-in_err-j-3 c =
    rw c.from_residual-in_err-j-3.ensures
    (a_placement
    (catalog_of c.args.catalog.now)
    (rw (c.tables.ensures.rows, c.tablets-tablets.ensures.rows) at c.in_ok-j.ensures)
    (rw c.tablets-tablets.ensures.rows at c.in_ok-j-2.ensures)
    (rw c.placements.ensures.rows at c.in_err-j-3.ensures))

pub returns-in_err-j-4 : goal.returns-in_err-j-4
returns-in_err-j-4 c =
    rw c.from_residual-in_err-j-4.ensures
    (a_retirement
    (catalog_of c.args.catalog.now)
    (rw (c.tables.ensures.rows, c.tablets-tablets.ensures.rows) at c.in_ok-j.ensures)
    (rw c.tablets-tablets.ensures.rows at c.in_ok-j-2.ensures)
    (rw c.placements.ensures.rows at c.in_ok-j-3.ensures)
    (rw c.retirements.ensures.rows at c.in_err-j-4.ensures))

pub returns : goal.returns
returns c =
    a_mark
    (catalog_of c.args.catalog.now)
    (rw (c.tables.ensures.rows, c.tablets-tablets.ensures.rows) at c.in_ok-j.ensures)
    (rw c.tablets-tablets.ensures.rows at c.in_ok-j-2.ensures)
    (rw c.placements.ensures.rows at c.in_ok-j-3.ensures)
    (rw c.retirements.ensures.rows at c.in_ok-j-4.ensures)
    (rw c.marks.ensures at c.put_marks_at.ensures)
