-- Numbers of four and of eight bytes: std reads them from an array as the tape has them. Assumes nothing.
use Rattle.std.proofs.Common.{◌≡◌, ℕ, ◌+◌, ◌≤◌, List, [], ◌∷◌, length, drop, arith, ap, refl, sym, ◌∙◌, ◌<◌, ◌^◌, ◌++◌, zero, suc, get_or, take}
use Rattle.std.proofs.lemmas.List.{length-drop, length-take-le, get_or-drop}
use Rattle.std.proofs.lemmas.Nat.{le_bytes_8}
use Rattle.std.specs.Int.{w32, w64, from_le_bytes, to_le_bytes}
use Rattle.laws.specs.Bytes.{little, field_at, number_at, in_eight}

pub four_bytes : (b : List ℕ) → length b ≡ 4 → from_le_bytes w32 b ≡ little b
unfolding little
four_bytes (p ∷ q ∷ r ∷ s ∷ []) e = omega arith
four_bytes _ e = absurd (omega arith)

pub eight_bytes : (b : List ℕ) → length b ≡ 8 → from_le_bytes w64 b ≡ little b
unfolding little
eight_bytes (p ∷ q ∷ r ∷ s ∷ t ∷ u ∷ v ∷ w ∷ []) e = omega arith
eight_bytes _ e = absurd (omega arith)

-- a field whose bytes are there has them all
pub field_length : (n : ℕ) (l : List ℕ) (at : ℕ) → at + n ≤ length l → length (field_at n l at) ≡ n
field_length n l at h = length-take-le n (drop at l) (simp length-drop (omega arith))

pub four : (l : List ℕ) (at n : ℕ) (b : List ℕ) → at + 4 ≤ length l → b ≡ field_at 4 l at → n ≡ from_le_bytes w32 b → n ≡ number_at 4 l at
four l at n b h q e = e ∙ four_bytes b (ap length q ∙ field_length 4 l at h) ∙ ap little q

pub eight : (l : List ℕ) (at n : ℕ) (b : List ℕ) → at + 8 ≤ length l → b ≡ field_at 8 l at → n ≡ from_le_bytes w64 b → n ≡ number_at 8 l at
eight l at n b h q e = e ∙ eight_bytes b (ap length q ∙ field_length 8 l at h) ∙ ap little q

-- of bytes, the first are bytes, and those from a place on
pub bytes_take : (n : ℕ) (l : List ℕ) → ((i : ℕ) → get_or l i 0 < 256) → (i : ℕ) → get_or (take n l) i 0 < 256
bytes_take zero l b i = omega arith
bytes_take (suc n) [] b i = omega arith
bytes_take (suc n) (x ∷ l) b zero = b 0
bytes_take (suc n) (x ∷ l) b (suc i) = bytes_take n l (λ j. b (suc j)) i

pub bytes_drop : (n : ℕ) (l : List ℕ) → ((i : ℕ) → get_or l i 0 < 256) → (i : ℕ) → get_or (drop n l) i 0 < 256
bytes_drop n l b i = rw get_or-drop (b (n + i))

-- eight bytes are told by their number
pub eight_tells : (a b : List ℕ) → length a ≡ 8 → length b ≡ 8 → ((i : ℕ) → get_or a i 0 < 256) → ((i : ℕ) → get_or b i 0 < 256) → little a ≡ little b → a ≡ b
eight_tells a b k l g h e =
    sym (le_bytes_8 a (little a) k g (sym (eight_bytes a k))) ∙ ap (to_le_bytes w64) e ∙ le_bytes_8 b (little b) l h (sym (eight_bytes b l))

-- ---- written and read

pub eight_length : (n : ℕ) → length (in_eight n) ≡ 8
unfolding in_eight
eight_length n = refl

pub eight_read : (n : ℕ) (l : List ℕ) → n < 2 ^ 64 → number_at 8 (in_eight n ++ l) 0 ≡ n
unfolding in_eight little
eight_read n l h = omega arith
