-- Chunks of one width: cut, joined, one put among them, one replaced. Assumes nothing.
use Rattle.std.specs.Prelude.{◌≡◌, ℕ, zero, suc, ◌+◌, ◌-◌, ◌*◌, ◌<◌, ◌≤◌, List, ◌∷◌, ◌++◌, length, take, drop, set}
use Rattle.std.specs.Simd.{first_chunks}
use Rattle.std.proofs.Common.{refl, sym, ap, ap₂, ◌∙◌, arith, add-one, append_assoc}
use Rattle.std.proofs.Math.Nat.{suc-mul, mul-le-mul_right, add-mul}
use Rattle.std.proofs.Math.Seq.{set_at, drop-append-add}
use Rattle.std.proofs.lemmas.List.{take-append-drop, length-take-le, length-drop, length-append, take-append-le, drop-append-le, take_at, drop_at, drop-drop, drop-take}
use Rattle.laws.proofs.Insert.{insert_at}

module _ (w : ℕ) where
  pub chunks_length : (n : ℕ) (l : List ℕ) → length (first_chunks w n l) ≡ n
  chunks_length zero l = refl
  chunks_length (suc n) l = ap suc (chunks_length n (drop w l))

  behind_one : (n : ℕ) (l : List ℕ) → drop (n * w) (drop w l) ≡ drop (suc n * w) l
  behind_one n l = drop-drop (n * w) w l ∙ ap (λ (k : ℕ). drop k l) (omega (arith, suc-mul n w))

  pub joined : (a b : ℕ) (l : List ℕ) → first_chunks w (a + b) l ≡ first_chunks w a l ++ first_chunks w b (drop (a * w) l)
  joined zero b l = let e : zero + b ≡ b = omega arith in let f : zero * w ≡ 0 = omega arith in rw (e, f) refl
  joined (suc a) b l =
      let e : suc a + b ≡ suc (a + b) = omega arith in
      rw e (ap (λ (r : List (List ℕ)). take w l ∷ r) (joined a b (drop w l) ∙ ap (λ (x : List ℕ). first_chunks w a (drop w l) ++ first_chunks w b x) (behind_one a l)))

  -- what stands behind them is not read
  pub ahead : (a : ℕ) (l r : List ℕ) → a * w ≤ length l → first_chunks w a (l ++ r) ≡ first_chunks w a l
  ahead zero l r h = refl
  ahead (suc a) l r h =
      let k : w ≤ length l = omega (arith, suc-mul a w, h) in
      let d : length (drop w l) ≡ length l - w = length-drop w l in
      ap₂ (λ (x : List ℕ) (y : List (List ℕ)). x ∷ y) (take-append-le w l r k)
      (ap (first_chunks w a) (drop-append-le w l r k) ∙ ahead a (drop w l) r (omega (arith, d, suc-mul a w, h)))

  pub of_front : (a n : ℕ) (l r : List ℕ) → a ≤ n → n * w ≤ length l → first_chunks w a (take (n * w) l ++ r) ≡ first_chunks w a l
  of_front a n l r h k =
      let g : a * w ≤ n * w = mul-le-mul_right w h in
      let t : length (take (n * w) l) ≡ n * w = length-take-le (n * w) l k in
      ahead a (take (n * w) l) r (omega (arith, t, g)) ∙ sym (ahead a (take (n * w) l) (drop (n * w) l) (omega (arith, t, g))) ∙ ap (first_chunks w a) (take-append-drop (n * w) l)

  pub front_of : (a n : ℕ) (l : List ℕ) → a ≤ n → take a (first_chunks w n l) ≡ first_chunks w a l
  front_of zero n l h = refl
  front_of (suc a) zero l h = absurd (omega arith)
  front_of (suc a) (suc n) l h = ap (λ (r : List (List ℕ)). take w l ∷ r) (front_of a n (drop w l) (omega arith))

  pub rest_of : (a n : ℕ) (l : List ℕ) → a ≤ n → drop a (first_chunks w n l) ≡ first_chunks w (n - a) (drop (a * w) l)
  rest_of zero n l h = let f : zero * w ≡ 0 = omega arith in let e : n - zero ≡ n = omega arith in rw (f, e) refl
  rest_of (suc a) zero l h = absurd (omega arith)
  rest_of (suc a) (suc n) l h = let e : suc n - suc a ≡ n - a = omega arith in rw e (rest_of a n (drop w l) (omega arith) ∙ ap (first_chunks w (n - a)) (behind_one a l))

  -- ---- one put among the first n
  module _ (n at : ℕ) (row l : List ℕ) (h : at ≤ n) (k : (n + 1) * w ≤ length l) (e : length row ≡ w) where
    abbrev after : List ℕ
    after = drop (at * w) (take (n * w) l) ++ drop ((n + 1) * w) l

    abbrev whole : List ℕ
    whole = take (at * w) l ++ (row ++ after)

    le : at * w ≤ n * w
    le = mul-le-mul_right w h

    more : (n + 1) * w ≡ n * w + w
    more = rw add-one (suc-mul n w)

    front_long : length (take (at * w) l) ≡ at * w
    front_long = length-take-le (at * w) l (omega (arith, le, more, k))

    middle : drop (at * w) (take (n * w) l) ≡ take ((n - at) * w) (drop (at * w) l)
    middle =
        let s : at * w + (n - at) * w ≡ n * w = sym (add-mul at (n - at) w) ∙ (let q : at + (n - at) ≡ n = omega arith in rw q refl) in
        rw (sym s) (drop-take (at * w) ((n - at) * w) l)

    chunk : first_chunks w (suc (n - at)) (row ++ after) ≡ row ∷ first_chunks w (n - at) (drop (at * w) l)
    chunk =
        let r : length (drop (at * w) l) ≡ length l - at * w = length-drop (at * w) l in
        let s : at * w + (n - at) * w ≡ n * w = sym (add-mul at (n - at) w) ∙ (let q : at + (n - at) ≡ n = omega arith in rw q refl) in
        ap₂ (λ (x : List ℕ) (y : List (List ℕ)). x ∷ y) (take_at row after w e)
        (ap (first_chunks w (n - at)) (drop_at row after w e ∙ ap (λ (x : List ℕ). x ++ drop ((n + 1) * w) l) middle)
        ∙ of_front (n - at) (n - at) (drop (at * w) l) (drop ((n + 1) * w) l) (omega arith) (omega (arith, r, s, more, k, le)))

    pub chunks_put : first_chunks w (n + 1) whole ≡ insert_at at row (first_chunks w n l)
    chunks_put =
        let s : n + 1 ≡ at + suc (n - at) = omega arith in
        ap (λ (m : ℕ). first_chunks w m whole) s
        ∙ joined at (suc (n - at)) whole
        ∙ ap₂ (λ (x y : List (List ℕ)). x ++ y)
        (of_front at at l (row ++ after) (omega arith) (omega (arith, le, more, k)) ∙ sym (front_of at n l h))
        (ap (first_chunks w (suc (n - at))) (drop_at (take (at * w) l) (row ++ after) (at * w) front_long) ∙ chunk
        ∙ ap (λ (r : List (List ℕ)). row ∷ r) (sym (rest_of at n l h)))

    -- what stands behind the room for it is as it was
    pub behind_put : drop ((n + 1) * w) whole ≡ drop ((n + 1) * w) l
    behind_put =
        let m : List ℕ = drop (at * w) (take (n * w) l) in
        let f : List ℕ = take (at * w) l in
        let t : length (take (n * w) l) ≡ n * w = length-take-le (n * w) l (omega (arith, more, k)) in
        let lm : length m ≡ n * w - at * w = length-drop (at * w) (take (n * w) l) ∙ omega (arith, t) in
        let a : whole ≡ (f ++ (row ++ m)) ++ drop ((n + 1) * w) l =
        ap (λ (x : List ℕ). f ++ x) (sym (append_assoc row m (drop ((n + 1) * w) l))) ∙ sym (append_assoc f (row ++ m) (drop ((n + 1) * w) l)) in
        let b : length (f ++ (row ++ m)) ≡ (n + 1) * w =
        length-append f (row ++ m) ∙ omega (arith, length-append row m, lm, front_long, e, more, le) in
        ap (drop ((n + 1) * w)) a ∙ drop_at (f ++ (row ++ m)) (drop ((n + 1) * w) l) ((n + 1) * w) b

    pub whole_length : length whole ≡ length l
    whole_length =
        let m : List ℕ = drop (at * w) (take (n * w) l) in
        let t : length (take (n * w) l) ≡ n * w = length-take-le (n * w) l (omega (arith, more, k)) in
        let lm : length m ≡ n * w - at * w = length-drop (at * w) (take (n * w) l) ∙ omega (arith, t) in
        length-append (take (at * w) l) (row ++ after)
        ∙ omega (arith, length-append row after, length-append m (drop ((n + 1) * w) l), length-drop ((n + 1) * w) l, lm, front_long, e, more, le, k)

  -- ---- one of the first n replaced
  module _ (n at : ℕ) (row l : List ℕ) (h : at < n) (k : n * w ≤ length l) (e : length row ≡ w) where
    abbrev replaced : List ℕ
    replaced = take (at * w) l ++ (row ++ drop (suc at * w) l)

    le_next : suc at * w ≤ n * w
    le_next = mul-le-mul_right w (let q : suc at ≤ n = omega arith in q)

    pub chunks_set : first_chunks w n replaced ≡ set (first_chunks w n l) at row
    chunks_set =
        let s : n ≡ at + suc (n - suc at) = omega arith in
        let q : n - at ≡ suc (n - suc at) = omega arith in
        let fl : length (take (at * w) l) ≡ at * w = length-take-le (at * w) l (omega (arith, suc-mul at w, le_next, k)) in
        let r : first_chunks w n l ≡ first_chunks w at l ++ first_chunks w (suc (n - suc at)) (drop (at * w) l) = ap (λ (m : ℕ). first_chunks w m l) s ∙ joined at (suc (n - suc at)) l in
        ap (λ (m : ℕ). first_chunks w m replaced) s
        ∙ joined at (suc (n - suc at)) replaced
        ∙ ap₂ (λ (x y : List (List ℕ)). x ++ y)
        (of_front at at l (row ++ drop (suc at * w) l) (omega arith) (omega (arith, suc-mul at w, le_next, k)))
        (ap (first_chunks w (suc (n - suc at))) (drop_at (take (at * w) l) (row ++ drop (suc at * w) l) (at * w) fl)
        ∙ ap₂ (λ (x : List ℕ) (y : List (List ℕ)). x ∷ y) (take_at row (drop (suc at * w) l) w e)
        (ap (first_chunks w (n - suc at)) (drop_at row (drop (suc at * w) l) w e)))
        ∙ sym (ap (λ (x : List (List ℕ)). set x at row) r
        ∙ set_at (first_chunks w at l) (take w (drop (at * w) l)) (first_chunks w (n - suc at) (drop w (drop (at * w) l))) row at (chunks_length at l)
        ∙ ap (λ (x : List ℕ). first_chunks w at l ++ row ∷ first_chunks w (n - suc at) x) (drop-drop w (at * w) l ∙ ap (λ (m : ℕ). drop m l) (omega (arith, suc-mul at w))))

    pub behind_set : drop (n * w) replaced ≡ drop (n * w) l
    behind_set =
        let f : List ℕ = take (at * w) l in
        let fl : length (f ++ row) ≡ suc at * w = length-append f row ∙ omega (arith, length-take-le (at * w) l (omega (arith, suc-mul at w, le_next, k)), e, suc-mul at w) in
        let m : ℕ = n * w - suc at * w in
        let q : n * w ≡ length (f ++ row) + m = omega (arith, fl, le_next) in
        let r : suc at * w + m ≡ n * w = omega (arith, le_next) in
        ap₂ (λ (i : ℕ) (x : List ℕ). drop i x) q (sym (append_assoc f row (drop (suc at * w) l)))
        ∙ drop-append-add (f ++ row) (drop (suc at * w) l) m
        ∙ drop-drop m (suc at * w) l
        ∙ ap (λ (i : ℕ). drop i l) r

    pub replaced_length : length replaced ≡ length l
    replaced_length =
        length-append (take (at * w) l) (row ++ drop (suc at * w) l)
        ∙ omega (arith, length-append row (drop (suc at * w) l), length-drop (suc at * w) l, length-take-le (at * w) l (omega (arith, suc-mul at w, le_next, k)), e, suc-mul at w, le_next, k)
