-- A line sought part by part. Assumes nothing.
use Rattle.std.proofs.Common.{◌≡◌, ℕ, ◌-◌, ◌<◌, ◌≤◌, ◌≢◌, true, false, List, [], ◌∷◌, ◌++◌, length, map, get_or, Some, None, refl, sym, ap, ◌∙◌, arith}
use Rattle.std.specs.Prelude.{Option}
use Rattle.std.proofs.lemmas.List.{get_or_append_left, get_or-append_right, get_or-map, length-append, length-map}
use Rattle.std.proofs.lemmas.Grind.{common_steps}
use Rattle.dump.specs.Lines.{LineAt, Sought, number_behind}

-- ---- a number among so many lines, or behind them

module _ (lines : List (List ℕ)) (i : ℕ) where
  among : i < length lines → None ≡ number_behind lines i
  among h = grind (arith, common_steps)

  past : length lines ≤ i → Some (i - length lines) ≡ number_behind lines i
  past h = grind (arith, common_steps)

  below : None ≡ number_behind lines i → i < length lines
  below e = grind (arith, common_steps)

  over : {k : ℕ} → Some k ≡ number_behind lines i → (length lines ≤ i) × (k ≡ i - length lines)
  over {k} e = grind (arith, common_steps)

  past_text : length lines ≤ i → get_or lines i [] ≡ []
  past_text h = grind (arith, common_steps)

-- ---- one line

module _ (lines : List (List ℕ)) (i : ℕ) {text : List ℕ} where
  pub here : i < length lines → text ≡ get_or lines i [] → Sought lines i text None
  here h e = record { number = among lines i h; line = e }

  pub line_found : Sought lines i text None → LineAt lines i text true
  line_found s = record { there = grind (arith, common_steps, below lines i s.number); line = s.line }

  module _ {k : ℕ} (s : Sought lines i text (Some k)) where
    pub no_line : LineAt lines i text false
    no_line = record { there = grind (arith, common_steps, over lines i s.number); line = s.line }

    pub no_text : text ≡ []
    no_text = s.line ∙ past_text lines i (over lines i s.number).0

-- the line of a row that is read
pub row_line : {X Y : Type 0} (read : X → Y) (say : Y → List ℕ) (rows : List X) (i : ℕ) {x : X} {y : Y} {b text : List ℕ} → i < length rows → x ≡ get_or rows i x
    → y ≡ read x → b ≡ [] → text ≡ b ++ say y → Sought (map say (map read rows)) i text None
row_line read say rows i {x} h e r n t =
    here (map say (map read rows)) i (rw (length-map, length-map) h)
    (t ∙ rw (n, r, get_or-map say (map read rows) i (read x) [] (rw length-map h), get_or-map read rows i x (read x) h) (ap (λ z. say (read z)) e))

-- ---- lines, and more behind them

module _ (xs ys : List (List ℕ)) (i : ℕ) where
  pub in_first : {text : List ℕ} → Sought xs i text None → Sought (xs ++ ys) i text None
  in_first s =
      let h : i < length xs = below xs i s.number in
      record { number = among (xs ++ ys) i (omega (arith, h, length-append xs ys)); line = s.line ∙ sym (get_or_append_left xs ys [] i h) }

  pub in_second : {t text : List ℕ} {k : ℕ} {behind : Option ℕ} → Sought xs i t (Some k) → Sought ys k text behind → Sought (xs ++ ys) i text behind
  in_second {t} {text} {k} s r =
      let o = over xs i s.number in
      record {
        number = r.number ∙ grind (arith, common_steps, o, length-append xs ys);
        line = r.line ∙ rw (o.1) (sym (get_or-append_right xs ys (length xs) i [] refl o.0));
      }

-- the first of some lines, and those behind it
module _ (x : List ℕ) (rest : List (List ℕ)) (i : ℕ) where
  pub first_line : {b text : List ℕ} → i ≡ 0 → b ≡ [] → text ≡ b ++ x → Sought (x ∷ rest) i text None
  first_line e n t = rw e (here (x ∷ rest) 0 (omega arith) (rw n at t))

  pub rest_line : {text : List ℕ} {behind : Option ℕ} → i ≢ 0 → Sought rest (i - 1) text behind → Sought (x ∷ rest) i text behind
  rest_line h s = in_second (x ∷ []) rest i (record { number = past (x ∷ []) i (omega (arith, h)); line = sym (past_text (x ∷ []) i (omega (arith, h))) }) s

  -- behind one line alone
  pub only_line : {text : List ℕ} → rest ≡ [] → 0 < i → text ≡ [] → Sought (x ∷ rest) i text (Some (i - 1))
  only_line e h t = rw e (record { number = past (x ∷ []) i (omega (arith, h)); line = t ∙ sym (past_text (x ∷ []) i (omega (arith, h))) })
