-- Open without them: the next turn of each loop, and the way out with a clash. Their laws take what `clash_at` found joined with what the branch says of it.
use Rattle.std.proofs.Common.{rules, sym, ◌∙◌}
use Rattle.nodes.proofs.Endpoints.{fields_next, fields_end, fields_stop, rows_next, rows_stop}
use Rattle.nodes.proofs.clashes.clash.Goals as goal

pub loop-j-preserved : goal.loop-j-preserved
loop-j-preserved c = (fields_next _ c.loop-j.invariant.0 c.loop-j-test.true (sym c.clash_at.ensures.found ∙ c.in_default.is), c.loop-j.invariant.1)

pub rows-preserved : goal.rows-preserved
rows-preserved c = rows_next _ c.rows.invariant c.rows-test.true _ c.loop-j.invariant.1 (fields_end c.loop-j.invariant.0 c.loop-j-test.false)

pub returns-in-Some : goal.returns-in-Some
returns-in-Some c =
    rows_stop _ c.rows.invariant c.rows-test.true _ (fields_stop _ c.loop-j.invariant.0 c.loop-j-test.true _ c.in-Some.k (sym c.clash_at.ensures.found ∙ c.in-Some.is) (search rules))
