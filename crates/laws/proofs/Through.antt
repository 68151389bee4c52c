-- Searches among rows that are read from others by f: the same as among what f reads. Over any type of rows. Assumes nothing.
use Rattle.std.specs.Prelude.{◌≡◌, ℕ, suc, Bool, true, false, cond, ◌&&◌, ◌||◌, ◌+◌, List, [], ◌∷◌, map, Option, Some, None}
use Rattle.std.specs.List.{find}
use Rattle.std.specs.Option.{option_map}
use Rattle.std.proofs.Common.{refl, ap}
use Rattle.laws.specs.Keyed.{Keyed, has}
use Rattle.laws.specs.Through.{through}
use Rattle.laws.specs.Lists.{any, every, tally}
use Rattle.laws.specs.Rows.{find_from, find_index, insert_by, rising_after, rising}

module _ {A B : Type 0} (f : B → A) where
  pub any_map : (p : A → Bool) (l : List B) → any (λ b. p (f b)) l ≡ any p (map f l)
  any_map p [] = refl
  any_map p (x ∷ l) = ap (λ t. p (f x) || t) (any_map p l)

  pub every_map : (p : A → Bool) (l : List B) → every (λ b. p (f b)) l ≡ every p (map f l)
  every_map p [] = refl
  every_map p (x ∷ l) = ap (λ t. p (f x) && t) (every_map p l)

  pub tally_map : (p : A → Bool) (l : List B) → tally (λ b. p (f b)) l ≡ tally p (map f l)
  unfolding tally
  tally_map p [] = refl
  tally_map p (x ∷ l) = ap (λ n. cond (p (f x)) 1 0 + n) (tally_map p l)

  find_from_map : (p : A → Bool) (i : ℕ) (l : List B) → find_from (λ b. p (f b)) i l ≡ find_from p i (map f l)
  find_from_map p i [] = refl
  find_from_map p i (x ∷ l) = ap (λ o. cond (p (f x)) (Some i) o) (find_from_map p (suc i) l)

  pub find_map : (p : A → Bool) (l : List B) → find_index (λ b. p (f b)) l ≡ find_index p (map f l)
  find_map p l = find_from_map p 0 l

  pub insert_map : (lt : A → A → Bool) (x : B) (l : List B) → map f (insert_by (λ a b. lt (f a) (f b)) x l) ≡ insert_by lt (f x) (map f l)
  insert_map lt x [] = refl
  insert_map lt x (y ∷ l) = go (lt (f x) (f y)) (insert_map lt x l)
    where
      go : (t : Bool) → map f (insert_by (λ a b. lt (f a) (f b)) x l) ≡ insert_by lt (f x) (map f l)
          → map f (cond t (x ∷ y ∷ l) (y ∷ insert_by (λ a b. lt (f a) (f b)) x l)) ≡ cond t (f x ∷ f y ∷ map f l) (f y ∷ insert_by lt (f x) (map f l))
      go true h = refl
      go false h = ap (λ r. f y ∷ r) h

  rising_after_map : (lt : A → A → Bool) (x : B) (l : List B) → rising_after (λ a b. lt (f a) (f b)) x l ≡ rising_after lt (f x) (map f l)
  rising_after_map lt x [] = refl
  rising_after_map lt x (y ∷ l) = ap (λ t. lt (f x) (f y) && t) (rising_after_map lt y l)

  pub rising_map : (lt : A → A → Bool) (l : List B) → rising (λ a b. lt (f a) (f b)) l ≡ rising lt (map f l)
  rising_map lt [] = refl
  rising_map lt (x ∷ l) = rising_after_map lt x l

  module _ (T : Keyed A) (k : T.Key) where
    pub has_map : (l : List B) → has (through f T) k l ≡ has T k (map f l)
    has_map [] = refl
    has_map (x ∷ l) = ap (λ t. cond (T.eq (T.key (f x)) k) true t) (has_map l)

  pub first_map : (p : A → Bool) (l : List B) → option_map f (find (λ b. p (f b)) l) ≡ find p (map f l)
  first_map p [] = refl
  first_map p (x ∷ l) = go (p (f x)) (first_map p l)
    where
      go : (t : Bool) → option_map f (find (λ b. p (f b)) l) ≡ find p (map f l) → option_map f (cond t (Some x) (find (λ b. p (f b)) l)) ≡ cond t (Some (f x)) (find p (map f l))
      go true h = refl
      go false h = h

pub option_map_map : {A B C : Type 0} (f : B → A) (v : C → B) (r : Option C) → option_map f (option_map v r) ≡ option_map (λ c. f (v c)) r
option_map_map f v None = refl
option_map_map f v (Some c) = refl
