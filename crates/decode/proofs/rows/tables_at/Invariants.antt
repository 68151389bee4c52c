use Rattle.std.proofs.Common.{◌≡◌, ℕ, ◌+◌, ◌*◌, ◌<◌, get_or}
use Rattle.metadata.specs.declared.TableRow.{TableRow}
use Rattle.decode.specs.Decode.{table_at}
use Rattle.decode.proofs.rows.tables_at.Given as goal

abbrev pub invariant-loop-i : goal.invariant-loop-i
invariant-loop-i l = (k : ℕ) (e : TableRow) → k < l.i → get_or l.row-items k e ≡ table_at l.s (l.at + 12 * k)
