use Rattle.std.proofs.Common.{arith, ap, length}
use Rattle.dump.proofs.Lines.{no_text}
use Rattle.dump.proofs.Store.{in_directory, in_catalog, past_all, the_pick}
use Rattle.dump.specs.Dump.{catalog_lines}
use Rattle.layout.specs.Layout.{catalog_of, store_of}
use Rattle.dump.proofs.put_line_at.Goals as goal

pub put_pick-requires : goal.put_pick-requires
put_pick-requires c = omega (arith, ap length (no_text (catalog_lines (catalog_of c.catalog.result.now)) c.in-Some.j c.in-Some-put_catalog_at.ensures))

-- the parts of the block are the parts of its store
pub returns-in_default : goal.returns-in_default
unfolding store_of
returns-in_default c = in_directory (store_of c.args.store.now) (rw c.directory-directory.ensures.part at c.in_default.ensures)

pub returns-in_default-put_catalog_at : goal.returns-in_default-put_catalog_at
unfolding store_of
returns-in_default-put_catalog_at c =
    in_catalog
    (store_of c.args.store.now)
    (rw c.directory-directory.ensures.part at c.in-Some.ensures)
    (rw c.catalog.ensures.part at c.in_default-put_catalog_at.ensures)

pub returns-then-k-gt0 : goal.returns-then-k-gt0
unfolding store_of
returns-then-k-gt0 c =
    past_all
    (store_of c.args.store.now)
    (rw c.directory-directory.ensures.part at c.in-Some.ensures)
    (rw c.catalog.ensures.part at c.in-Some-put_catalog_at.ensures)
    c.if-k-gt0.true

pub returns : goal.returns
unfolding store_of
returns c =
    the_pick
    (store_of c.args.store.now)
    (rw c.directory-directory.ensures.part at c.in-Some.ensures)
    (rw c.catalog.ensures.part at c.in-Some-put_catalog_at.ensures)
    c.if-k-gt0.false
    (rw (c.select_initial_placement.ensures, c.nodes.ensures.rows, c.directory-directory.ensures.part) at c.put_pick.ensures.text)
