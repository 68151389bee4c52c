-- Records that stand one behind the other, read each by its index. Assumes nothing.
use Rattle.std.proofs.Common.{◌≡◌, ℕ, zero, suc, ◌+◌, ◌*◌, ◌<◌, ◌≤◌, List, [], ◌∷◌, ◌++◌, length, get_or, take, take_all, arith, refl, sym, ap, ap₂, ◌∙◌}
use Rattle.std.proofs.lemmas.List.{take-append-le}
use Rattle.std.proofs.Math.Nat.{mul-zero, mul-suc}
use Rattle.decode.specs.Decode.{list_at}

module _ {A : Type 0} (f : List ℕ → ℕ → A) (size : ℕ) (l : List ℕ) where
  -- the first n of a list that has at each index the record of that index
  pub front : (n at : ℕ) (ys : List A) → n ≤ length ys → ((i : ℕ) (e : A) → i < n → get_or ys i e ≡ f l (at + size * i)) → take n ys ≡ list_at f size n l at
  front zero at ys h k = refl
  front (suc n) at [] h k = absurd (omega arith)
  front (suc n) at (y ∷ ys) h k =
      let here : y ≡ f l at = k 0 y (omega arith) ∙ rw mul-zero (ap (f l) (omega arith)) in
      ap₂ (λ (x : A) (xs : List A). x ∷ xs) here
      (front n (at + size) ys (omega arith) (λ i e b. k (suc i) e (omega arith) ∙ rw mul-suc (ap (f l) (omega arith))))

  -- the same, where more stands behind the list
  pub front_of : (n at : ℕ) (ys more : List A) → n ≤ length ys → ((i : ℕ) (e : A) → i < n → get_or ys i e ≡ f l (at + size * i)) →
      take n (ys ++ more) ≡ list_at f size n l at
  front_of n at ys more h k = take-append-le n ys more h ∙ front n at ys h k

  -- and all of it
  pub whole : (n at : ℕ) (ys : List A) → length ys ≡ n → ((i : ℕ) (e : A) → i < n → get_or ys i e ≡ f l (at + size * i)) → ys ≡ list_at f size n l at
  whole n at ys h k = sym (take_all n ys (omega arith)) ∙ front n at ys (omega arith) k
