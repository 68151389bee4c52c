-- Open without it: of an Active node, that it is not chosen yet.
use Rattle.std.proofs.Common.{sym, ◌∙◌}
use Rattle.rows.specs.Rows.{node_row}
use Rattle.choice.proofs.Rows.{is_new}
use Rattle.choice.proofs.is_candidate.Goals as goal

pub returns-then-is_active : goal.returns-then-is_active
returns-then-is_active c = is_new (λ n. node_row n.now) _ _ (sym c.is_active.ensures ∙ c.if-is_active.true) c.node_id.ensures c.contains.ensures
