-- The check of the failure domains by the nodes of the replicas. Assumes nothing.
use Rattle.std.specs.Prelude.{List, map}
use Rattle.metadata.specs.Answers.{◌⊳◌}
use Rattle.metadata.specs.Kinds.{label_of}
use Rattle.metadata.specs.Labels.{distinct}
use Rattle.metadata.specs.Placements.{judge_domain}
use Rattle.metadata.specs.declared.Answer.{Answer}
use Rattle.metadata.specs.declared.NodeDescriptor.{NodeDescriptor}
use Rattle.metadata.specs.declared.PlacementPolicy.{PlacementPolicy}
use Rattle.metadata.specs.declared.kinds.Domain.TheVariants as D

-- `judge_domains`, where the nodes of the replicas are at hand
unfoldable pub judge_spread : List NodeDescriptor → PlacementPolicy → Answer
judge_spread on q =
    judge_domain D.Region q.min_distinct_regions (distinct (map (label_of D.Region) on))
    ⊳ judge_domain D.Zone q.min_distinct_zones (distinct (map (label_of D.Zone) on))
    ⊳ judge_domain D.Rack q.min_distinct_racks (distinct (map (label_of D.Rack) on))
