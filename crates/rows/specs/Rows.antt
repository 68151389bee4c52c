-- What the bytes of a row say, and the rows of each table. Assumes nothing.
use Rattle.std.specs.Prelude.{ℕ, ◌+◌, ◌≤◌, List, map}
use Rattle.decode.specs.Decode.{node_at, table_at, tablet_at, placement_at, retirement_at}
use Rattle.metadata.specs.Rooms.{label_width}
use Rattle.metadata.specs.declared.NodeDescriptor.{NodeDescriptor}
use Rattle.metadata.specs.declared.TableRow.{TableRow}
use Rattle.metadata.specs.declared.TabletDescriptor.{TabletDescriptor}
use Rattle.metadata.specs.declared.DesiredReplicaPlacement.{DesiredReplicaPlacement}
use Rattle.metadata.specs.declared.RetiredReplicaLifetime.{RetiredReplicaLifetime}
use Rattle.metadata.specs.declared.kinds.Domain.{Domain}
use Rattle.metadata.specs.declared.kinds.Domain.TheVariants as D

abbrev pub node_row : List ℕ → NodeDescriptor
node_row b = node_at b 0

-- where the label for a domain stands in a node's row: "id 8, four texts 48, three labels 24, ..", a text with its length before it
abbrev pub label_place : Domain → ℕ
label_place D.Region = 204
label_place D.Zone = 229
label_place D.Rack = 254

-- a label that stands at the place, its length and its text, is within a node's row
abbrev pub WithinNode : ℕ → Type 0
WithinNode place = place + 1 + label_width ≤ 305

abbrev pub table_row : List ℕ → TableRow
table_row b = table_at b 0

abbrev pub tablet_row : List ℕ → TabletDescriptor
tablet_row b = tablet_at b 0

abbrev pub placement_row : List ℕ → DesiredReplicaPlacement
placement_row b = placement_at b 0

abbrev pub retirement_row : List ℕ → RetiredReplicaLifetime
retirement_row b = retirement_at b 0

-- ---- many of them, a name for each table

abbrev pub node_rows : List (List ℕ) → List NodeDescriptor
node_rows = map node_row

abbrev pub table_rows : List (List ℕ) → List TableRow
table_rows = map table_row

abbrev pub tablet_rows : List (List ℕ) → List TabletDescriptor
tablet_rows = map tablet_row

abbrev pub placement_rows : List (List ℕ) → List DesiredReplicaPlacement
placement_rows = map placement_row

abbrev pub retirement_rows : List (List ℕ) → List RetiredReplicaLifetime
retirement_rows = map retirement_row
