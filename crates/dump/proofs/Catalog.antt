-- A line of the catalog, sought among those of its tables, one table after the other, then among those of its marks. Assumes nothing.
use Rattle.std.proofs.Common.{ℕ, List, [], ◌∷◌, ◌++◌, map, Some, None}
use Rattle.std.specs.Prelude.{Option}
use Rattle.dump.proofs.Lines.{in_first, in_second}
use Rattle.dump.specs.Dump.{table_line_among, catalog_lines}
use Rattle.dump.specs.Lines.{Sought}
use Rattle.metadata.specs.Model.{CatalogRows}
use Rattle.row_lines.specs.PlacementLines.{placement_line}
use Rattle.row_lines.specs.RowLines.{tablet_line, retired_line}
use Rattle.row_lines.specs.StoreLines.{marks_line, next_line}

module _ (k : CatalogRows) where
  -- the lines up to each part
  abbrev tables : List (List ℕ)
  tables = map (table_line_among k.tables k.tablets) k.tables

  abbrev tablets : List (List ℕ)
  tablets = tables ++ map tablet_line k.tablets

  abbrev placements : List (List ℕ)
  placements = tablets ++ map placement_line k.placements

  abbrev retirements : List (List ℕ)
  retirements = placements ++ map retired_line k.retirements

  -- the lines up to a part hold it: so do those of the whole catalog
  module _ {i : ℕ} {t : List ℕ} where
    up_to_retirements : Sought retirements i t None → Sought (catalog_lines k) i t None
    unfolding catalog_lines
    up_to_retirements = in_first retirements _ i

    up_to_placements : Sought placements i t None → Sought (catalog_lines k) i t None
    up_to_placements s = up_to_retirements (in_first placements _ i s)

    up_to_tablets : Sought tablets i t None → Sought (catalog_lines k) i t None
    up_to_tablets s = up_to_placements (in_first tablets _ i s)

    pub a_table : Sought tables i t None → Sought (catalog_lines k) i t None
    a_table s = up_to_tablets (in_first tables _ i s)

  module _ {i i₁ : ℕ} {t t₁ : List ℕ} (s : Sought tables i t (Some i₁)) where
    pub a_tablet : Sought (map tablet_line k.tablets) i₁ t₁ None → Sought (catalog_lines k) i t₁ None
    a_tablet r = up_to_tablets (in_second tables _ i s r)

    module _ {i₂ : ℕ} {t₂ : List ℕ} (s₁ : Sought (map tablet_line k.tablets) i₁ t₁ (Some i₂)) where
      pub a_placement : Sought (map placement_line k.placements) i₂ t₂ None → Sought (catalog_lines k) i t₂ None
      a_placement r = up_to_placements (in_second tablets _ i (in_second tables _ i s s₁) r)

      module _ {i₃ : ℕ} {t₃ : List ℕ} (s₂ : Sought (map placement_line k.placements) i₂ t₂ (Some i₃)) where
        behind_placements : {b : Option ℕ} → Sought (map retired_line k.retirements) i₃ t₃ b → Sought retirements i t₃ b
        behind_placements r = in_second placements _ i (in_second tablets _ i (in_second tables _ i s s₁) s₂) r

        pub a_retirement : Sought (map retired_line k.retirements) i₃ t₃ None → Sought (catalog_lines k) i t₃ None
        a_retirement r = up_to_retirements (behind_placements r)

        pub a_mark : {i₄ : ℕ} {t₄ : List ℕ} {b : Option ℕ} → Sought (map retired_line k.retirements) i₃ t₃ (Some i₄) → Sought (marks_line k.marks ∷ next_line k.marks ∷ []) i₄ t₄ b
            → Sought (catalog_lines k) i t₄ b
        unfolding catalog_lines
        a_mark s₃ r = in_second retirements _ i (behind_placements s₃) r
