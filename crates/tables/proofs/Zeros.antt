-- Zeros, eight bytes at a time. Assumes nothing.
use Rattle.std.specs.Prelude.{◌≡◌, ℕ, zero, suc, ◌+◌, ◌-◌, ◌*◌, ◌/◌, ◌≤◌, ◌<◌, Bool, true, false, ◌&&◌, List, [], ◌∷◌, ◌++◌, eqb, leb, length, take, drop}
use Rattle.std.specs.Simd.{first_chunks}
use Rattle.std.proofs.Common.{refl, sym, ap, ap₂, ◌∙◌, arith, eqb-true, eq-eqb, le-leb}
use Rattle.std.proofs.lemmas.Bool.{eqb-false, lt-leb}
use Rattle.std.proofs.Math.Nat.{suc-mul, mul-le-mul_right}
use Rattle.laws.specs.Lists.{All}
use Rattle.laws.proofs.ListLaws.{never, all_map, every-all, all-every}
use Rattle.std.proofs.lemmas.List.{take-append-drop, length-take-le, length-drop, drop-drop, take_rest}
use Rattle.laws.specs.Bytes.{is_zero, little, number_at}
use Rattle.laws.specs.Lists.{every}
use Rattle.laws.specs.Tests.{all_of}
use Rattle.tables.specs.Rows.{zero_word, zero_block, tidy}

-- a word is zero exactly where its bytes are
zeros_of : (w : List ℕ) → every is_zero w ≡ true → All (λ (x : ℕ). x ≡ 0) w
zeros_of w e = all_map w (λ x h. eqb-true x 0 h) (every-all is_zero w e)

of_zeros : (w : List ℕ) → All (λ (x : ℕ). x ≡ 0) w → every is_zero w ≡ true
of_zeros w a = all-every is_zero w (all_map w (λ x h. eq-eqb x 0 h) a)

word_go : (p q r s t u v x n : ℕ) (a b : Bool) → n ≡ p + q * 256 + r * 65536 + s * 16777216 + t * 4294967296 + u * 1099511627776 + v * 281474976710656 + x * 72057594037927936
    → eqb n 0 ≡ a → every is_zero (p ∷ q ∷ r ∷ s ∷ t ∷ u ∷ v ∷ x ∷ []) ≡ b → a ≡ b
word_go p q r s t u v x n true true k e f = refl
word_go p q r s t u v x n false false k e f = refl
word_go p q r s t u v x n true false k e f =
    let z : n ≡ 0 = eqb-true n 0 e in
    let y = of_zeros (p ∷ q ∷ r ∷ s ∷ t ∷ u ∷ v ∷ x ∷ []) (
      omega (arith, k, z),
      (omega (arith, k, z), (omega (arith, k, z), (omega (arith, k, z), (omega (arith, k, z), (omega (arith, k, z), (omega (arith, k, z), (omega (arith, k, z), tt))))))),
    ) in
    absurd (never _ y f)
word_go p q r s t u v x n false true k e f =
    let y = zeros_of (p ∷ q ∷ r ∷ s ∷ t ∷ u ∷ v ∷ x ∷ []) f in
    absurd (eqb-false n 0 e (omega (arith, k, y.0, y.1.0, y.1.1.0, y.1.1.1.0, y.1.1.1.1.0, y.1.1.1.1.1.0, y.1.1.1.1.1.1.0, y.1.1.1.1.1.1.1.0)))

word_is : (w : List ℕ) → length w ≡ 8 → zero_word w ≡ every is_zero w
word_is (p ∷ q ∷ r ∷ s ∷ t ∷ u ∷ v ∷ x ∷ []) e = word_go p q r s t u v x _ _ _ refl refl refl
word_is _ e = absurd (omega arith)

and_assoc : (t u v : Bool) → ((t && u) && v) ≡ (t && (u && v))
and_assoc true u v = refl
and_assoc false u v = refl

every_append : (l m : List ℕ) → every is_zero (l ++ m) ≡ (every is_zero l && every is_zero m)
every_append [] m = refl
every_append (x ∷ l) m = ap (λ (t : Bool). is_zero x && t) (every_append l m) ∙ sym (and_assoc (is_zero x) (every is_zero l) (every is_zero m))

-- chunks of one width, and what is left behind them
module _ (w : ℕ) (test : List ℕ → Bool) (is : (c : List ℕ) → length c ≡ w → test c ≡ every is_zero c) where
  chunks_are : (n : ℕ) (l : List ℕ) → n * w ≤ length l → (every test (first_chunks w n l) && every is_zero (drop (n * w) l)) ≡ every is_zero l
  chunks_are zero l h = ap (λ (i : ℕ). every is_zero (drop i l)) none
    where
      none : 0 * w ≡ 0
      none = omega arith
  chunks_are (suc n) l h =
      let d : length (drop w l) ≡ length l - w = length-drop w l in
      let k : length (take w l) ≡ w = length-take-le w l (omega (arith, suc-mul n w)) in
      let m : drop (suc n * w) l ≡ drop (n * w) (drop w l) = sym (drop-drop (n * w) w l ∙ ap (λ (i : ℕ). drop i l) (omega (arith, suc-mul n w))) in
      and_assoc (test (take w l)) (every test (first_chunks w n (drop w l))) (every is_zero (drop (suc n * w) l))
      ∙ ap₂ (λ (t u : Bool). t && u) (is (take w l) k)
      (ap (λ (x : List ℕ). every test (first_chunks w n (drop w l)) && every is_zero x) m ∙ chunks_are n (drop w l) (omega (arith, d, suc-mul n w)))
      ∙ sym (every_append (take w l) (drop w l))
      ∙ ap (every is_zero) (take-append-drop w l)

-- the number of bytes is zero exactly where they are
sum_go : (b n : ℕ) (t u v : Bool) → eqb (b + 256 * n) 0 ≡ t → eqb b 0 ≡ u → eqb n 0 ≡ v → t ≡ (u && v)
sum_go b n true true true e f g = refl
sum_go b n false true false e f g = refl
sum_go b n false false v e f g = refl
sum_go b n true true false e f g = absurd (eqb-false n 0 g (omega (arith, eqb-true _ 0 e)))
sum_go b n true false v e f g = absurd (eqb-false b 0 f (omega (arith, eqb-true _ 0 e)))
sum_go b n false true true e f g = absurd (eqb-false _ 0 e (omega (arith, eqb-true b 0 f, eqb-true n 0 g)))

little_zero : (l : List ℕ) → eqb (little l) 0 ≡ every is_zero l
unfolding little
little_zero [] = refl
little_zero (b ∷ l) = sum_go b (little l) _ _ _ refl refl refl ∙ ap (λ (t : Bool). is_zero b && t) (little_zero l)

-- a block is zero exactly where its bytes are
block_is : (b : List ℕ) → length b ≡ 32 → zero_block b ≡ every is_zero b
unfolding all_of
block_is b e =
    let f : (n : ℕ) → eqb (number_at 8 b n) 0 ≡ every is_zero (take 8 (drop n b)) = λ n. little_zero (take 8 (drop n b)) in
    let s : (n : ℕ) → every is_zero (drop n b) ≡ (every is_zero (take 8 (drop n b)) && every is_zero (drop (n + 8) b)) =
    λ n. ap (every is_zero) (sym (take-append-drop 8 (drop n b))) ∙ every_append (take 8 (drop n b)) (drop 8 (drop n b)) ∙ ap (λ (x : List ℕ). every is_zero (take 8 (drop n b)) && every is_zero x) (drop-drop 8 n b) in
    let z : every is_zero (drop 32 b) ≡ true = ap (every is_zero) (drop_all 32 b (omega (arith, e))) in
    rw (f 0, f 8, f 16, f 24) (four _ _ _ _ _ _ _ _ _ (s 0) (s 8) (s 16) (s 24) z)
  where
    drop_all : (n : ℕ) (l : List ℕ) → length l ≤ n → drop n l ≡ []
    drop_all zero [] h = refl
    drop_all (suc n) [] h = refl
    drop_all zero (x ∷ l) h = absurd (omega (arith, h))
    drop_all (suc n) (x ∷ l) h = drop_all n l (omega (arith, h))

    four : (p q r s t u v w z : Bool) → t ≡ (p && u) → u ≡ (q && v) → v ≡ (r && w) → w ≡ (s && z) → z ≡ true → (((p && q) && r) && s) ≡ t
    four p q r s t u v w z a b c d e = rw (a, b, c, d, e) (go p q r s)
      where
        go : (p q r s : Bool) → (((p && q) && r) && s) ≡ (p && (q && (r && (s && true))))
        go true true true true = refl
        go true true true false = refl
        go true true false s = refl
        go true false r s = refl
        go false q r s = refl

and_false : (w : Bool) → (w && false) ≡ false
and_false true = refl
and_false false = refl

last_go : (w l r p q e : Bool) → e ≡ (w && r) → e ≡ (p && l) → l ≡ (q && r) → (w && l) ≡ e
last_go w false r p q e a b c = and_false w ∙ sym (b ∙ and_false p)
last_go w true true p q e a b c = sym a
last_go w true false p q e a b c = absurd (never _ (sym c) (and_false q))

take_all : (m : List ℕ) → take (length m) m ≡ m
take_all [] = refl
take_all (x ∷ m) = ap (λ (r : List ℕ). x ∷ r) (take_all m)

-- there is a word
pub a_word : (l : List ℕ) (words : List (List ℕ)) (t : Bool) → length words ≡ length l / 8 → t ≡ eqb (length words) 0 → t ≡ false → 8 ≤ length l
a_word l words t e f g = omega (arith, e, eqb-false (length words) 0 (sym f ∙ g))

-- all words are zero, and the last eight bytes
pub in_words : (t : Bool) (l : List ℕ) (words : List (List ℕ)) → words ≡ first_chunks 8 (length l / 8) l → 8 ≤ length l → t ≡ every zero_word words →
    (t && eqb (number_at 8 l (length l - 8)) 0) ≡ every is_zero l
in_words t l words e h g =
    let n : ℕ = length l / 8 in
    let k : ℕ = length l - 8 in
    let a : (every zero_word (first_chunks 8 n l) && every is_zero (drop (n * 8) l)) ≡ every is_zero l = chunks_are 8 zero_word word_is n l (omega arith) in
    let d : length (drop k l) ≡ length l - k = length-drop k l in
    let g8 : 8 ≡ length (drop k l) = omega (arith, d) in
    let f : eqb (number_at 8 l k) 0 ≡ every is_zero (drop k l) = little_zero (take 8 (drop k l)) ∙ ap (every is_zero) (ap (λ (i : ℕ). take i (drop k l)) g8 ∙ take_all (drop k l)) in
    let c : every is_zero l ≡ (every is_zero (take k l) && every is_zero (drop k l)) = ap (every is_zero) (sym (take-append-drop k l)) ∙ every_append (take k l) (drop k l) in
    let back : k + (n * 8 - k) ≡ n * 8 = omega arith in
    let m : drop (n * 8 - k) (drop k l) ≡ drop (n * 8) l = drop-drop (n * 8 - k) k l ∙ ap (λ (i : ℕ). drop i l) back in
    let q : every is_zero (drop k l) ≡ (every is_zero (take (n * 8 - k) (drop k l)) && every is_zero (drop (n * 8) l)) =
    ap (every is_zero) (sym (take-append-drop (n * 8 - k) (drop k l))) ∙ every_append (take (n * 8 - k) (drop k l)) (drop (n * 8 - k) (drop k l))
    ∙ ap (λ (x : List ℕ). every is_zero (take (n * 8 - k) (drop k l)) && every is_zero x) m in
    rw (g, e, f) (last_go _ _ _ _ _ _ (sym a) c q)

pub in_blocks : (t u : Bool) (l rest : List ℕ) (blocks : List (List ℕ)) → blocks ≡ first_chunks 32 (length l / 32) l → rest ≡ drop (length l / 32 * 32) l → t ≡ every zero_block blocks → u ≡ every is_zero rest → (t && u) ≡ every is_zero l
in_blocks t u l rest blocks e f g h = rw (g, h, e, f) (chunks_are 32 zero_block block_is (length l / 32) l (omega arith))

-- ---- a table's tail

module _ (w room n : ℕ) (t : List ℕ) (e : length t ≡ 8 + room * w) (p : n ≡ number_at 8 t 0) where
  tail : (m : ℕ) → take (length t - m) (drop m t) ≡ drop m t
  tail m = take_rest t m

  pub tidy_within : n ≤ room → (r : Bool) → r ≡ every is_zero (take (length t - (8 + n * w)) (drop (8 + n * w) t)) → r ≡ tidy w room t
  unfolding tidy all_of
  tidy_within h r q =
      let a : eqb (length t) (8 + room * w) ≡ true = eq-eqb _ _ e in
      let b : leb (number_at 8 t 0) room ≡ true = le-leb _ _ (omega (arith, p, h)) in
      let z : every is_zero (drop (8 + number_at 8 t 0 * w) t) ≡ r = ap (λ (m : ℕ). every is_zero (drop (8 + m * w) t)) (sym p) ∙ ap (every is_zero) (sym (tail (8 + n * w))) ∙ sym q in
      rw (a, b) (sym z)

  pub tidy_over : room < n → leb n room ≡ tidy w room t
  unfolding tidy all_of
  tidy_over h =
      let a : eqb (length t) (8 + room * w) ≡ true = eq-eqb _ _ e in
      let b : leb (number_at 8 t 0) room ≡ false = lt-leb _ _ (omega (arith, p, h)) in
      let d : leb n room ≡ false = lt-leb _ _ h in
      rw (a, b, d) refl

  pub tail_there : n ≤ room → 8 + n * w ≤ length t
  tail_there h = omega (arith, e, mul-le-mul_right w h)
