-- A search among values that are read from others, and what a label adds by the text that it lends. Assumes nothing.
use Rattle.std.specs.Prelude.{◌≡◌, ℕ, Bool, true, false, not, cond, ◌||◌, List, [], ◌∷◌, map, Some, None}
use Rattle.std.proofs.Common.{refl, ap, rules}
use Rattle.laws.specs.Lists.{any}
use Rattle.metadata.specs.Labels.{new_label}
use Rattle.metadata.specs.Texts.{OptionalLabel}
use mir.Val.{bool_byte}
use Rattle.text.specs.Texts.{present_text, has_text, shares_text, same_text, text_of}

pub any_map : {A B : Type 0} (p : B → Bool) (f : A → B) (l : List A) → any p (map f l) ≡ any (λ x. p (f x)) l
any_map p f [] = refl
any_map p f (x ∷ l) = ap (λ b. p (f x) || b) (any_map p f l)

present_both : (p : Bool) (s t : List ℕ) → Some s ≡ cond p (Some t) None → (p ≡ true) × (s ≡ t)
present_both p s t e = search rules

none_present : (p : Bool) (t : List ℕ) → None ≡ cond p (Some t) None → p ≡ false
none_present p t e = search rules

one_or_none : (b : Bool) → bool_byte b ≡ cond b 1 0
one_or_none true = refl
one_or_none false = refl

-- f reads a label
module _ {A : Type 0} (f : A → OptionalLabel) (x : OptionalLabel) (l : List A) where
  -- a present label's text is held against the labels of the others
  pub present_adds : {s : List ℕ} {b : Bool} → Some s ≡ present_text x → b ≡ any (λ o. has_text s (f o)) l → bool_byte (not b) ≡ new_label x (map f l)
  unfolding new_label shares_text same_text
  present_adds {s} e h =
      let t = present_both x.present s (text_of x.text) e in
      rw (h, one_or_none, any_map (shares_text x) f l, t.0, t.1) refl

  pub absent_adds : None ≡ present_text x → 0 ≡ new_label x (map f l)
  unfolding new_label
  absent_adds e = rw (none_present x.present (text_of x.text) e) refl
