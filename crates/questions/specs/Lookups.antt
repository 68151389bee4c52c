-- What the questions to a store give: first whether the store is sound (reason 12), then what was asked. Assumes nothing.
use Rattle.laws.specs.Keyed.{Keyed, has, row}
use Rattle.metadata.specs.Tables.{tablet_key, tablet_of}
use Rattle.metadata.specs.Tablets.{partitions_overlap}
use Rattle.metadata.specs.Texts.{key_text}
use Rattle.metadata.specs.declared.TabletDescriptor.{TabletDescriptor}
use Rattle.questions.specs.declared.Unsound.{Unsound}
use Rattle.std.specs.Prelude.{◌≡◌, ℕ, Bool, true, false, cond, ◌&&◌, List, Option, Some, None, Result, MatchOption, MatchResult}
use Rattle.text.specs.Ranges.{later_start}

-- of a store that is not sound nothing is said
abbrev pub Tells : {X : Type 0} → Bool → (X → Type 0) → Result X Unsound → Type 0
Tells sounds P r = MatchResult r (λ x. (sounds ≡ true) × P x) (λ _. sounds ≡ false)

-- the first row under the key, or none
abbrev pub Looks : {A : Type 0} (T : Keyed A) → A → T.Key → List A → Option A → Type 0
Looks T d k l o = MatchOption o (has T k l ≡ false) (λ r. (has T k l ≡ true) × (row T d k l ≡ r))

-- a tablet has the id, and its range overlaps that of t
abbrev pub overlaps_row : TabletDescriptor → List TabletDescriptor → ℕ → Bool
overlaps_row t tablets id = has tablet_key id tablets && partitions_overlap t.partition (tablet_of id tablets).partition

-- the later of the starts of t and of the tablet under the id
abbrev pub later_row : TabletDescriptor → List TabletDescriptor → ℕ → List ℕ
later_row t tablets id = later_start (key_text t.partition.start_key) (key_text (tablet_of id tablets).partition.start_key)

-- "the later of two starts is handed back": from which key on the two overlap, none where they do not
abbrev pub OverlapStart : TabletDescriptor → List TabletDescriptor → ℕ → Option (List ℕ) → Type 0
OverlapStart t tablets id o = o ≡ cond (overlaps_row t tablets id) (Some (later_row t tablets id)) None
