-- A candidate for the first choice beside what its labels add. Assumes nothing.
use Rattle.std.specs.Option.{option_map}
use Rattle.std.specs.Prelude.{◌≡◌, List, Option}
use Rattle.choice.specs.declared.Candidate.{Candidate}
use Rattle.metadata.specs.Labels.{locality_gain}
use Rattle.metadata.specs.declared.NodeDescriptor.{NodeDescriptor}
use Rattle.rows.specs.Rows.{node_row}

abbrev pub node_in : Candidate → NodeDescriptor
node_in c = node_row c.node.now

-- the gain that is kept is what the node's labels add to those of the chosen nodes
abbrev pub Gains : List NodeDescriptor → Candidate → Type 0
Gains chosen c = c.gain ≡ locality_gain chosen (node_in c)

-- the best so far, as a node
abbrev pub best_in : Option Candidate → Option NodeDescriptor
best_in = option_map node_in
