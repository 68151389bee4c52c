-- Two tidy tables with the same rows are the same bytes. Over any width and room. Assumes nothing.
use Rattle.std.specs.Prelude.{◌≡◌, ℕ, zero, suc, ◌+◌, ◌-◌, ◌*◌, ◌<◌, ◌≤◌, min, true, List, [], ◌∷◌, ◌++◌, length, map, take, drop, get_or, replicate}
use Rattle.std.specs.List.{concat}
use Rattle.std.specs.Simd.{first_chunks}
use Rattle.std.proofs.Common.{refl, sym, ap, ap₂, ◌∙◌, arith, take-add, eqb-true, leb-true}
use Rattle.std.proofs.Math.Nat.{suc-mul, mul-le-mul_right}
use Rattle.std.proofs.lemmas.List.{take-append-drop, length-take-le, length-drop, length-map, drop-drop}
use Rattle.laws.specs.Bytes.{is_zero}
use Rattle.laws.specs.Lists.{every}
use Rattle.laws.proofs.Every.{clear_padded}
use Rattle.laws.proofs.Tests.{each_of}
use Rattle.numbers.proofs.Numbers.{bytes_take, bytes_drop, eight_tells}
use Rattle.tables.specs.Rows.{count_of, rows_of, tidy}
use Rattle.tables.proofs.Chunks.{chunks_length}

abbrev Bytes : List ℕ → Type 0
Bytes l = (i : ℕ) → get_or l i 0 < 256

-- chunks joined are what was cut
joined_again : (w n : ℕ) (l : List ℕ) → concat (first_chunks w n l) ≡ take (n * w) l
joined_again w zero l = let e : zero * w ≡ 0 = omega arith in rw e refl
joined_again w (suc n) l =
    let e : suc n * w ≡ w + n * w = omega (arith, suc-mul n w) in
    ap (λ (x : List ℕ). take w l ++ x) (joined_again w n (drop w l)) ∙ sym (take-add w (n * w) l) ∙ ap (λ (k : ℕ). take k l) (sym e)

-- a tidy table is as long as its room asks, its count is how many rows it has, and the rest is zeros
record Tidy (w room : ℕ) (t : List ℕ) : Type 0 where
  long : length t ≡ 8 + room * w
  count : count_of t ≡ length (rows_of w room t)
  within : length (rows_of w room t) ≤ room
  rows : rows_of w room t ≡ first_chunks w (length (rows_of w room t)) (drop 8 t)
  rest : every is_zero (drop (8 + length (rows_of w room t) * w) t) ≡ true

tidy_is : (w room : ℕ) (t : List ℕ) → tidy w room t ≡ true → Tidy w room t
unfolding tidy rows_of
tidy_is w room t e =
    let g = each_of _ e in
    let long : length t ≡ 8 + room * w = eqb-true _ _ g.0 in
    let within : count_of t ≤ room = leb-true _ _ g.1.0 in
    let m : length (rows_of w room t) ≡ count_of t = chunks_length w (min (count_of t) room) (drop 8 t) ∙ omega (arith, within) in
    let k : min (count_of t) room ≡ length (rows_of w room t) = omega (arith, within, m) in
    record {
      long = long;
      count = sym m;
      within = omega (arith, within, m);
      rows = ap (λ (n : ℕ). first_chunks w n (drop 8 t)) k;
      rest = ap (λ (n : ℕ). every is_zero (drop (8 + n * w) t)) m ∙ g.1.1.0;
    }

-- so a table is its count, its rows and zeros
module _ (w room : ℕ) (t u : List ℕ) (p : tidy w room t ≡ true) (q : tidy w room u ≡ true) (b : Bytes t) (c : Bytes u) where
  pub table_once : rows_of w room t ≡ rows_of w room u → t ≡ u
  table_once e =
      let g = tidy_is w room t p in
      let h = tidy_is w room u q in
      let n : ℕ = length (rows_of w room t) in
      let m : length (rows_of w room u) ≡ n = ap length (sym e) in
      let long : length t ≡ length u = g.long ∙ sym h.long in
      let head : take 8 t ≡ take 8 u =
      eight_tells (take 8 t) (take 8 u) (length-take-le 8 t (omega (arith, g.long))) (length-take-le 8 u (omega (arith, h.long))) (bytes_take 8 t b) (bytes_take 8 u c)
      (g.count ∙ sym m ∙ sym h.count) in
      let body : take (n * w) (drop 8 t) ≡ take (n * w) (drop 8 u) =
      sym (joined_again w n (drop 8 t)) ∙ ap concat (sym g.rows ∙ e ∙ h.rows ∙ ap (λ (k : ℕ). first_chunks w k (drop 8 u)) m) ∙ joined_again w n (drop 8 u) in
      let zeros : drop (8 + n * w) t ≡ drop (8 + n * w) u =
      clear_padded is_zero 0 (λ x k. eqb-true x 0 k) (8 + n * w) t g.rest
      ∙ ap (λ (k : ℕ). replicate (k - (8 + n * w)) 0) long
      ∙ sym (clear_padded is_zero 0 (λ x k. eqb-true x 0 k) (8 + n * w) u (ap (λ (k : ℕ). every is_zero (drop (8 + k * w) u)) (sym m) ∙ h.rest)) in
      let cut : (l : List ℕ) → l ≡ take 8 l ++ (take (n * w) (drop 8 l) ++ drop (8 + n * w) l) =
      (λ l. sym (take-append-drop 8 l) ∙ ap (λ (x : List ℕ). take 8 l ++ x)
      (sym (take-append-drop (n * w) (drop 8 l)) ∙ ap (λ (x : List ℕ). take (n * w) (drop 8 l) ++ x) (drop-drop (n * w) 8 l))) in
      cut t ∙ ap₂ (λ (x y : List ℕ). x ++ y) head (ap₂ (λ (x y : List ℕ). x ++ y) body zeros) ∙ sym (cut u)

-- rows that say the same are the same, where what a row says tells its bytes
module _ {A : Type 0} (f : List ℕ → A) (w : ℕ) (tells : (a b : List ℕ) → length a ≡ w → length b ≡ w → Bytes a → Bytes b → f a ≡ f b → a ≡ b) where
  chunks_once : (n : ℕ) (l m : List ℕ) → n * w ≤ length l → n * w ≤ length m → Bytes l → Bytes m → map f (first_chunks w n l) ≡ map f (first_chunks w n m) → first_chunks w n l ≡ first_chunks w n m
  chunks_once zero l m h k b c e = refl
  chunks_once (suc n) l m h k b c e =
      let first : take w l ≡ take w m =
      tells (take w l) (take w m) (length-take-le w l (omega (arith, suc-mul n w, h))) (length-take-le w m (omega (arith, suc-mul n w, k))) (bytes_take w l b) (bytes_take w m c)
      (ap (λ (x : List A). get_or x 0 (f [])) e) in
      let rest : first_chunks w n (drop w l) ≡ first_chunks w n (drop w m) =
      chunks_once n (drop w l) (drop w m) (omega (arith, suc-mul n w, length-drop w l, h)) (omega (arith, suc-mul n w, length-drop w m, k)) (bytes_drop w l b) (bytes_drop w m c)
      (ap (λ (x : List A). drop 1 x) e) in
      ap₂ (λ (x : List ℕ) (y : List (List ℕ)). x ∷ y) first rest

  pub records_once : (room : ℕ) (t u : List ℕ) → tidy w room t ≡ true → tidy w room u ≡ true → Bytes t → Bytes u → map f (rows_of w room t) ≡ map f (rows_of w room u) → t ≡ u
  records_once room t u p q b c e =
      let g = tidy_is w room t p in
      let h = tidy_is w room u q in
      let n : ℕ = length (rows_of w room t) in
      let m : length (rows_of w room u) ≡ n = sym (length-map (rows_of w room u) f) ∙ ap length (sym e) ∙ length-map (rows_of w room t) f in
      let r : rows_of w room u ≡ first_chunks w n (drop 8 u) = h.rows ∙ ap (λ (k : ℕ). first_chunks w k (drop 8 u)) m in
      let fits : n * w ≤ room * w = mul-le-mul_right w g.within in
      let same = chunks_once n (drop 8 t) (drop 8 u) (omega (arith, length-drop 8 t, g.long, fits)) (omega (arith, length-drop 8 u, h.long, fits)) (bytes_drop 8 t b) (bytes_drop 8 u c)
      (ap (map f) (sym g.rows) ∙ e ∙ ap (map f) r) in
      table_once w room t u p q b c (g.rows ∙ same ∙ sym r)
