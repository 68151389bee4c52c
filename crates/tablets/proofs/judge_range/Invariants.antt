use Rattle.metadata.specs.Tablets.{overlap_at}
use Rattle.metadata.proofs.Each.{EachFrom}
use Rattle.rows.specs.Rows.{tablet_row}
use Rattle.tablets.proofs.judge_range.Given as goal

-- the rows before this one do not overlap
abbrev pub invariant-loop-old : goal.invariant-loop-old
invariant-loop-old l = EachFrom (λ b. overlap_at l.t (tablet_row b)) l.tablets l.old-index
