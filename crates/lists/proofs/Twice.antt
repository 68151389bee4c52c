-- The first element is held against those after it, and then those after it among themselves. Assumes nothing.
use Rattle.std.proofs.Common.{◌≡◌, refl, Bool, true, false, List, [], ◌∷◌, length}
use Rattle.std.specs.List.{IsFirstAndRest}
use Rattle.laws.specs.Lists.{any, none_twice}

module _ {A : Type 0} (e : A → A → Bool) {x : A} {rest tail : List A} (f : IsFirstAndRest rest x tail) {t : Bool} (q : t ≡ any (e x) tail) where
  pub first_again : t ≡ true → false ≡ none_twice e rest
  unfolding none_twice
  first_again h = rw (f.0, ← q, h)

  pub first_differs : t ≡ false → none_twice e rest ≡ none_twice e tail
  unfolding none_twice
  first_differs h = rw (f.0, ← q, h)

pub none_left : {A : Type 0} (e : A → A → Bool) (l : List A) → length l ≡ 0 → true ≡ none_twice e l
unfolding none_twice
none_left e [] h = refl
none_left e (x ∷ l) h = cc
