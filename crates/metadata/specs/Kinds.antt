-- The numbers of kinds and roles, and of what an answer names. Assumes nothing.
use Rattle.std.specs.Prelude.{ℕ}
use Rattle.metadata.specs.Texts.{OptionalLabel}
use Rattle.metadata.specs.declared.NodeDescriptor.{NodeDescriptor}
use Rattle.metadata.specs.declared.kinds.Domain.{Domain}
use Rattle.metadata.specs.declared.kinds.Domain.TheVariants as D
use Rattle.metadata.specs.declared.kinds.TableKind.{TableKind}
use Rattle.metadata.specs.declared.kinds.TableKind.TheVariants as K
use Rattle.metadata.specs.declared.kinds.TapeFault.{TapeFault}
use Rattle.metadata.specs.declared.kinds.TapeFault.TheVariants as F

-- "kind 1 (0 Hash, 1 Range)"
abbrev pub hash_kind : ℕ
hash_kind = 0

abbrev pub range_kind : ℕ
range_kind = 1

-- "role 1; 0 Voter, 1 Learner"
abbrev pub voter : ℕ
voter = 0

abbrev pub learner : ℕ
learner = 1

-- "29 PlacementDomainUnsatisfied (0, 1 or 2, ..)": "regions then zones then racks"
abbrev pub domain_number : Domain → ℕ
domain_number D.Region = 0
domain_number D.Zone = 1
domain_number D.Rack = 2

-- the label that a node has for a domain
abbrev pub label_of : Domain → NodeDescriptor → OptionalLabel
label_of D.Region n = n.region
label_of D.Zone n = n.zone
label_of D.Rack n = n.rack

-- the table that 39 names: 0 nodes, 1 tablets, 2 retirements
abbrev pub table_number : TableKind → ℕ
table_number K.Nodes = 0
table_number K.Tablets = 1
table_number K.Retirements = 2

-- "40": 1 an unknown byte, 2 a command that is cut short
abbrev pub fault_number : TapeFault → ℕ
fault_number F.Unknown = 1
fault_number F.Cut = 2
