-- What std's searches of a list answer, in a table's words: whether a row is there, at which place the first stands, and that row.
-- Over any type of rows. Assumes nothing.
use denote.Param.Members.{Mut}
use denote.Ref.{Bor}
use Rattle.std.specs.declared.slice.Iter.{Iter}
use Rattle.std.specs.Bool.{⊤}
use Rattle.std.specs.Fn.{Called, CalledAt}
use Rattle.std.specs.Iterator.{YieldsThen}
use Rattle.std.specs.Slice.Iter.{iter_rest}
use Rattle.std.proofs.iter.Yields.{fronts}
use Rattle.std.proofs.lemmas.Iterator.{YieldsList-from_slice}
use Rattle.std.proofs.lemmas.Iterator.Search.{any_from_yields_List, all_from_yields_List, position_from_yields_List, find_from_yields_List}
use Rattle.std.specs.Prelude.{◌≡◌, ℕ, suc, ◌+◌, Bool, true, false, cond, ◌||◌, not, List, [], ◌∷◌, map, ltb, length, Option, Some, None, MatchOption, position}
use Rattle.std.specs.List.{FoldsTo, find, list_any, list_all, position_or_len}
use Rattle.std.specs.Option.{option_map}
use Rattle.std.proofs.Common.{refl, sym, ap, ◌∙◌, subst, arith, lt-ltb, le-ltb, ltb-true, ltb-false, add-zero, zero-add}
use Rattle.laws.specs.Keyed.{Keyed, has, row}
use Rattle.laws.specs.Rows.{find_from, find_index}
use Rattle.laws.proofs.Lookups.{under}
use Rattle.laws.proofs.Through.{first_map, option_map_map}

module _ {A : Type 0} (p : A → Bool) where
  -- place n of len, counted from i; with no such place nothing
  abbrev place : ℕ → ℕ → ℕ → Option ℕ
  place i n len = cond (ltb n len) (Some (i + n)) None

  place_first : (i len : ℕ) → place i 0 (suc len) ≡ Some i
  place_first i len = rw (lt-ltb 0 (suc len) (omega arith), add-zero)

  place_next : (i n len : ℕ) (t : Bool) → ltb n len ≡ t → place i (1 + n) (suc len) ≡ place (suc i) n len
  place_next i n len true e =
      let z : i + (1 + n) ≡ suc i + n = omega arith in
      rw (e, lt-ltb (1 + n) (suc len) (omega (arith, ltb-true n len e)), z)
  place_next i n len false e = rw (e, le-ltb (1 + n) (suc len) (omega (arith, ltb-false n len e)))

  from_go : (i : ℕ) (t : Bool) (n len : ℕ) (o : Option ℕ) → place (suc i) n len ≡ o → place i (cond (not t) (1 + n) 0) (suc len) ≡ cond t (Some i) o
  from_go i true n len o h = place_first i len
  from_go i false n len o h = place_next i n len (ltb n len) refl ∙ h

  from_is : (i : ℕ) (l : List A) → place i (position_or_len p l) (length l) ≡ find_from p i l
  from_is i [] = refl
  from_is i (x ∷ xs) = from_go i (p x) (position_or_len p xs) (length xs) (find_from p (suc i) xs) (from_is (suc i) xs)

  -- std counts the rows before the first that passes
  pub position_is : (l : List A) → position p l ≡ find_index p l
  position_is l = rw zero-add at (from_is 0 l)

module _ {A : Type 0} (T : Keyed A) (k : T.Key) where
  has_go : (t : Bool) (l : List A) → has T k l ≡ list_any (under T k) l → cond t true (has T k l) ≡ (t || list_any (under T k) l)
  has_go true l h = refl
  has_go false l h = h

  -- a row is there exactly where some row passes
  pub has_any : (l : List A) → has T k l ≡ list_any (λ (x : A). T.eq (T.key x) k) l
  has_any [] = refl
  has_any (x ∷ l) = has_go (under T k x) l (has_any l)

  module _ (d : A) where
    abbrev Says : List A → Option A → Type 0
    Says l o = MatchOption o (has T k l ≡ false) (λ (x : A). (has T k l ≡ true) × (row T d k l ≡ x))

    find_go : (t : Bool) (x : A) (l : List A) → Says l (find (under T k) l)
        → MatchOption (cond t (Some x) (find (under T k) l)) (cond t true (has T k l) ≡ false) (λ (y : A). (cond t true (has T k l) ≡ true) × (cond t x (row T d k l) ≡ y))
    find_go true x l h = (refl, refl)
    find_go false x l h = h

    find_says : (l : List A) → Says l (find (under T k) l)
    find_says [] = refl
    find_says (x ∷ l) = find_go (under T k x) x l (find_says l)

    -- the row itself: v reads what the search answers, as a reference is read
    module _ {B : Type 0} (v : B → A) (l : List A) where
      read : (r : Option B) → Says l (option_map v r) → MatchOption r (has T k l ≡ false) (λ (b : B). (has T k l ≡ true) × (row T d k l ≡ v b))
      read None h = h
      read (Some b) h = h

      pub row_found : (r : Option B) → option_map v r ≡ find (λ (x : A). T.eq (T.key x) k) l
          → MatchOption r (has T k l ≡ false) (λ (b : B). (has T k l ≡ true) × (row T d k l ≡ v b))
      row_found r e = read r (subst (Says l) (sym e) (find_says l))

-- ---- what a function answers that searches a slice: s is its iterator, which ends as u, and its closure f tells the test of each item
module _ {A F : Type 0} where
  abbrev Tells : Mut F (Bor A × ⊤) Bool → F → (A → Bool) → Type 0
  Tells g f p = (x : Bor A) (b : Bool) (q : F) → Called g f (x, tt) b q → (q ≡ f) × (b ≡ p x.now)

  -- the items that did not pass, and then none or one that did
  abbrev Stops : Mut F (Bor A × ⊤) Bool → Iter A → Iter A → F → Type 0 → (List (Bor A) → Type 0) → Type 0
  Stops g s u f Without With = (xs : List (Bor A)) × (o : Option (Bor A)) × (j : F) × YieldsThen fronts s xs o u × FoldsTo (λ k x q. Called g k (x, tt) false q) f xs j
      × MatchOption o Without (λ x. With xs × ((h : F) × Called g j (x, tt) true h))

  module _ {g : Mut F (Bor A × ⊤) Bool} {s : Iter A} (u : Iter A) (f : F) where
    pub has_from_any : (T : Keyed A) (k : T.Key) (l : List A) (r : Bool) → Stops g s u f (r ≡ false) (λ xs. r ≡ true) → iter_rest s ≡ l → Tells g f (under T k) → r ≡ has T k l
    has_from_any T k l r h e t = any_from_yields_List (under T k) u f r h (YieldsList-from_slice l e) t ∙ sym (has_any T k l)

    pub any_from_any : (p : A → Bool) (l : List A) (r : Bool) → Stops g s u f (r ≡ false) (λ xs. r ≡ true) → iter_rest s ≡ l → Tells g f p → r ≡ list_any p l
    any_from_any p l r h e t = any_from_yields_List p u f r h (YieldsList-from_slice l e) t

    pub every_from_all : (p : A → Bool) (l : List A) (r : Bool)
        → ((xs : List (Bor A)) × (o : Option (Bor A)) × (j : F) × YieldsThen fronts s xs o u × FoldsTo (λ k x q. Called g k (x, tt) true q) f xs j
        × MatchOption o (r ≡ true) (λ x. (r ≡ false) × ((h : F) × Called g j (x, tt) false h)))
        → iter_rest s ≡ l → Tells g f p → r ≡ list_all p l
    every_from_all p l r h e t = all_from_yields_List p u f r h (YieldsList-from_slice l e) t

    pub place_from_position : (p : A → Bool) (l : List A) (r : Option ℕ) → Stops g s u f (r ≡ None) (λ xs. r ≡ Some (length xs)) → iter_rest s ≡ l → Tells g f p → r ≡ find_index p l
    place_from_position p l r h e t = position_from_yields_List p u f r h (YieldsList-from_slice l e) t ∙ position_is p l

  -- the row itself, where f reads what the rows say
  pub read_from_find : {B : Type 0} (f : A → B) {g : Mut F (Bor (Bor A) × ⊤) Bool} {s : Iter A} (u : Iter A) (c : F) (T : Keyed B) (d : B) (k : T.Key) (l : List A) (r : Option (Bor A))
      → (xs : List (Bor A)) × (j : F) × YieldsThen fronts s xs r u × FoldsTo (λ p x q. CalledAt g p x false q) c xs j × MatchOption r ⊤ (λ x. (h : F) × CalledAt g j x true h)
      → iter_rest s ≡ l → ((x : Bor A) (b : Bool) (q : F) → CalledAt g c x b q → (q ≡ c) × (b ≡ under T k (f x.now)))
      → MatchOption r (has T k (map f l) ≡ false) (λ x. (has T k (map f l) ≡ true) × (row T d k (map f l) ≡ f x.now))
  read_from_find f u c T d k l r h e t =
      row_found T k d (λ x. f x.now) (map f l) r
      (sym (option_map_map f (λ x. x.now) r) ∙ ap (option_map f) (find_from_yields_List (λ x. under T k (f x)) u c r h (YieldsList-from_slice l e) t) ∙ first_map f (under T k) l)
