-- Answers to parts of a question, joined as the whole asks for them. Assumes nothing.
use Rattle.std.specs.Prelude.{◌≡◌, ℕ, Bool, true, false, ◌&&◌, List, [], ◌∷◌, eqb, length}
use Rattle.std.proofs.Common.{refl, ap, ap₂, ◌∙◌, eq-eqb}
use Rattle.laws.specs.Tests.{all_of}
use Rattle.layout.specs.Layout.{
  directory_part,
  catalog_part,
  nodes_in,
  nodes_part,
  tables_in,
  tables_part,
  tablets_in,
  tablets_part,
  placements_in,
  placements_part,
  retirements_in,
  retirements_part,
  name_of,
  marks_of,
  directory_of,
  catalog_of,
  store_of,
  tidy_directory,
  tidy_catalog,
  sound,
}
use Rattle.layout.specs.Places.{store_length}
use Rattle.metadata.specs.Sound.{sound_directory, sound_catalog, sound_rows, sound_placement, sound_policy}
use Rattle.metadata.specs.Texts.{OptionalName, optional_fits}
use Rattle.soundness.specs.Counts.{numbers_sound, replicas_sound, leaders_sound}
use Rattle.metadata.specs.declared.NodeDescriptor.{NodeDescriptor}
use Rattle.metadata.specs.declared.TableRow.{TableRow}
use Rattle.metadata.specs.declared.TabletDescriptor.{TabletDescriptor}
use Rattle.metadata.specs.declared.DesiredReplicaPlacement.{DesiredReplicaPlacement}
use Rattle.metadata.specs.declared.RetiredReplicaLifetime.{RetiredReplicaLifetime}
use Rattle.metadata.specs.declared.MetadataAllocatorState.{MetadataAllocatorState}

pub four : (a b c d t u : Bool) → t ≡ (a && b) → u ≡ (c && d) → (t && u) ≡ all_of (a ∷ b ∷ c ∷ d ∷ [])
unfolding all_of
four a b c d t u f g = rw (f, g) (go a b)
  where
    go : (a b : Bool) → ((a && b) && (c && d)) ≡ (((a && b) && c) && d)
    go true true = refl
    go true false = refl
    go false b = refl

pub five : (a b c d e t u : Bool) → t ≡ a → u ≡ all_of (b ∷ c ∷ d ∷ e ∷ []) → (t && u) ≡ all_of (a ∷ b ∷ c ∷ d ∷ e ∷ [])
unfolding all_of
five a b c d e t u f g = rw (f, g) (go a)
  where
    go : (a : Bool) → (a && (((b && c) && d) && e)) ≡ ((((a && b) && c) && d) && e)
    go true = refl
    go false = refl

-- a placement's numbers, then its class
and_assoc : (x y z : Bool) → ((x && y) && z) ≡ (x && (y && z))
and_assoc true y z = refl
and_assoc false y z = refl

pub placement_joined : (p : DesiredReplicaPlacement) (t u : Bool) → t ≡ numbers_sound p → u ≡ optional_fits p.placement_policy.required_storage_class → (t && u) ≡ sound_placement p
unfolding numbers_sound replicas_sound leaders_sound sound_placement sound_policy all_of
placement_joined p t u f g = ap₂ (λ (x y : Bool). x && y) f g ∙ and_assoc (replicas_sound p) (leaders_sound p.placement_policy) (optional_fits p.placement_policy.required_storage_class)

-- the rows that are lent are those of the directory
pub directory_there : (d : List ℕ) (n : OptionalName) (l : List NodeDescriptor) → n ≡ name_of d → l ≡ nodes_in (nodes_part d) → (t u : Bool) → t ≡ tidy_directory d
    → u ≡ sound_directory (record { name = n; nodes = l }) → (t && u) ≡ (tidy_directory d && sound_directory (directory_of d))
directory_there d n l e f t u g h =
    let rows : (record { name = n; nodes = l }) ≡ directory_of d = (λ i. record { name = e i; nodes = f i }) in
    ap₂ (λ (x y : Bool). x && y) g (h ∙ ap sound_directory rows)

-- and of the catalog
module _ (k : List ℕ) (a : List TableRow) (t : List TabletDescriptor) (p : List DesiredReplicaPlacement) (x : List RetiredReplicaLifetime) (m : MetadataAllocatorState) where
  pub catalog_there : a ≡ tables_in (tables_part k) → t ≡ tablets_in (tablets_part k) → p ≡ placements_in (placements_part k) → x ≡ retirements_in (retirements_part k) → m ≡ marks_of k
      → (q r : Bool) → q ≡ tidy_catalog k → r ≡ sound_catalog (record { tables = a; tablets = t; placements = p; retirements = x; marks = m }) → (q && r) ≡ (tidy_catalog k && sound_catalog (catalog_of k))
  catalog_there ea et ep ex em q r g h =
      let rows : (record { tables = a; tablets = t; placements = p; retirements = x; marks = m }) ≡ catalog_of k =
      (λ i. record { tables = ea i; tablets = et i; placements = ep i; retirements = ex i; marks = em i }) in
      ap₂ (λ (y z : Bool). y && z) g (h ∙ ap sound_catalog rows)

-- what is asked of each part, and what is asked of all parts
parted : (a b c d : Bool) → ((a && b) && (c && d)) ≡ ((a && c) && (b && d))
parted true true c d = refl
parted true false true d = refl
parted true false false d = refl
parted false b c d = refl

whole : (l a b c d : Bool) → l ≡ true → ((a && b) && (c && d)) ≡ all_of (l ∷ a ∷ c ∷ all_of (b ∷ d ∷ []) ∷ [])
unfolding all_of
whole l a b c d e = rw e (parted a b c d)

pub store_there : (b d k : List ℕ) (t u : Bool) → length b ≡ store_length → d ≡ directory_part b → k ≡ catalog_part b → t ≡ (tidy_directory d && sound_directory (directory_of d))
    → u ≡ (tidy_catalog k && sound_catalog (catalog_of k)) → (t && u) ≡ sound b
unfolding sound store_of sound_rows
store_there b d k t u e f g h i =
    ap₂ (λ (x y : Bool). x && y)
    (h ∙ ap (λ (x : List ℕ). tidy_directory x && sound_directory (directory_of x)) f)
    (i ∙ ap (λ (x : List ℕ). tidy_catalog x && sound_catalog (catalog_of x)) g)
    ∙ whole (eqb (length b) store_length) (tidy_directory (directory_part b)) (sound_directory (directory_of (directory_part b))) (tidy_catalog (catalog_part b))
    (sound_catalog (catalog_of (catalog_part b))) (eq-eqb (length b) store_length e)
