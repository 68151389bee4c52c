use Rattle.std.specs.Prelude.{◌≡◌, None, IfSome, drop, map}
use Rattle.choice.specs.Gains.{Gains, best_in}
use Rattle.metadata.specs.Labels.{best_of}
use Rattle.rows.specs.Rows.{node_row, node_rows}
use Rattle.choice.proofs.best_of.Given as goal

abbrev pub invariant-loop-n : goal.invariant-loop-n
invariant-loop-n l =
    IfSome l.best (Gains (map (λ n. node_row n.now) l.chosen))
    × (best_of (map (λ n. node_row n.now) l.chosen) (best_in l.best) (node_rows (drop l.n-index l.nodes))
    ≡ best_of (map (λ n. node_row n.now) l.chosen) None (node_rows l.nodes))
