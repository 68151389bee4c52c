-- A line of the dump, sought among those of the directory, then among those of the catalog, then that of the first choice. Assumes nothing.
use Rattle.std.proofs.Common.{◌≡◌, ◌<◌, ◌≤◌, ℕ, List, [], ◌∷◌, ◌++◌, true, false, Some, None, refl, arith}
use Rattle.dump.proofs.Lines.{first_line, in_first, in_second, line_found, no_line, no_text, only_line}
use Rattle.dump.specs.Dump.{directory_lines, catalog_lines, dump_lines}
use Rattle.dump.specs.Lines.{LineAt, Sought}
use Rattle.metadata.specs.Labels.{select_initial_placement}
use Rattle.metadata.specs.Model.{StoreRows}
use Rattle.row_lines.specs.StoreLines.{pick_line}

abbrev parts : StoreRows → List (List ℕ)
parts s = directory_lines s.directory ++ catalog_lines s.catalog

abbrev pick : StoreRows → List ℕ
pick s = pick_line (select_initial_placement s.directory.nodes)

module _ (s : StoreRows) {i : ℕ} {t : List ℕ} where
  pub in_directory : Sought (directory_lines s.directory) i t None → LineAt (dump_lines s) i t true
  unfolding dump_lines
  in_directory r = line_found (parts s ++ pick s ∷ []) i (in_first (parts s) _ i (in_first (directory_lines s.directory) _ i r))

  module _ {j : ℕ} (r : Sought (directory_lines s.directory) i t (Some j)) {t₁ : List ℕ} where
    pub in_catalog : Sought (catalog_lines s.catalog) j t₁ None → LineAt (dump_lines s) i t₁ true
    unfolding dump_lines
    in_catalog r₁ = line_found (parts s ++ pick s ∷ []) i (in_first (parts s) _ i (in_second (directory_lines s.directory) _ i r r₁))

    module _ {k : ℕ} (r₁ : Sought (catalog_lines s.catalog) j t₁ (Some k)) where
      pub past_all : 0 < k → LineAt (dump_lines s) i t₁ false
      unfolding dump_lines
      past_all h =
          no_line (parts s ++ pick s ∷ []) i (in_second (parts s) _ i (in_second (directory_lines s.directory) _ i r r₁) (only_line (pick s) [] k refl h (no_text (catalog_lines s.catalog) j r₁)))

      pub the_pick : {t₂ : List ℕ} → k ≤ 0 → t₂ ≡ t₁ ++ pick s → LineAt (dump_lines s) i t₂ true
      unfolding dump_lines
      the_pick h e =
          line_found (parts s ++ pick s ∷ []) i
          (in_second (parts s) _ i (in_second (directory_lines s.directory) _ i r r₁) (first_line (pick s) [] k (omega (arith, h)) (no_text (catalog_lines s.catalog) j r₁) e))
