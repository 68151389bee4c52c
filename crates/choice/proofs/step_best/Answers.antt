-- Open without them: a candidate that is the best from now on, and one that is not.
use Rattle.std.specs.Prelude.{map}
use Rattle.choice.specs.Gains.{best_in}
use Rattle.rows.specs.Rows.{node_row}
use Rattle.choice.proofs.Rows.{taken, kept}
use Rattle.choice.proofs.step_best.Goals as goal

pub returns-then-beats-clause-node : goal.returns-then-beats-clause-node
returns-then-beats-clause-node c =
    taken (map (λ n. node_row n.now) c.args.chosen.now) (best_in c.args.best) (node_row c.args.n.now) c.if-not-is_candidate.ensures
    (c.if-beats.ensures (map (λ n. node_row n.now) c.args.chosen.now) c.requires c.locality_gain.ensures)

pub returns-else-beats-clause-node : goal.returns-else-beats-clause-node
returns-else-beats-clause-node c =
    kept (map (λ n. node_row n.now) c.args.chosen.now) (best_in c.args.best) (node_row c.args.n.now) c.if-not-is_candidate.ensures
    (c.if-beats.ensures (map (λ n. node_row n.now) c.args.chosen.now) c.requires c.locality_gain.ensures)
