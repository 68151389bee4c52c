-- Texts and keys of every width: a length and a field, of which the first that many bytes are the text and the rest padding. Assumes nothing.
use Rattle.std.proofs.Common.{rules}
use Rattle.std.specs.Cmp.{IsPartialEquivalence}
use Rattle.std.specs.Cmp.Rules.{comparing}
use Rattle.std.specs.Prelude.{ℕ, Bool, false, not, cond, ◌&&◌, ◌||◌, List, leb, eqb, length, take, drop, replicate, Option, Some, None}
use Rattle.laws.specs.Bytes.{eq_bytes, is_zero}
use Rattle.laws.specs.Lists.{every}
use Rattle.text.specs.declared.Optional.{Optional}
use Rattle.text.specs.declared.Text.{Text}

-- ---- by a length and a field

-- within the width, and "padding not zero" does not apply
unfoldable pub fits : ℕ → ℕ → List ℕ → Bool
fits width len bytes = leb len width && every is_zero (drop len bytes)

abbrev pub byte_within : ℕ → ℕ → ℕ → Bool
byte_within low high b = leb low b && leb b high

-- reason 2 does not apply: at least `least` bytes, each from `low` to `high`, at most `width`, padding zero
unfoldable pub text_admitted : ℕ → ℕ → ℕ → ℕ → ℕ → List ℕ → Bool
text_admitted least width low high len bytes = leb least len && every (byte_within low high) (take len bytes) && fits width len bytes

-- reason 4: "empty or all spaces"
unfoldable pub blank : ℕ → List ℕ → Bool
blank len bytes = every (λ (b : ℕ). eqb b 32) (take len bytes)

-- the same byte strings
unfoldable pub same_text : ℕ → List ℕ → ℕ → List ℕ → Bool
same_text m xs n ys = eq_bytes (take m xs) (take n ys)

-- every one of `room` places is zero
unfoldable pub all_zero : {A : Type 0} → (A → Bool) → ℕ → List A → Bool
all_zero isZeroPlace room l = eqb (length l) room && every isZeroPlace l

unfoldable pub is_zero_text : ℕ → ℕ → List ℕ → Bool
is_zero_text width len bytes = is_zero len && all_zero is_zero width bytes

-- ---- of a text, and of one that may be absent

module _ {n : ℕ} where
  abbrev pub text_of : Text n → List ℕ
  text_of t = take t.len t.bytes

  abbrev pub same : Text n → Text n → Bool
  same a b = same_text a.len a.bytes b.len b.bytes

  -- what every equality owes
  pub same_laws : IsPartialEquivalence same
  unfolding same_text
  same_laws = Prim.search (comparing, rules)

  abbrev pub zero_text : Text n
  zero_text = record { len = 0; bytes = replicate n 0 }

  abbrev pub no_text : Optional n
  no_text = record { present = false; text = zero_text }

  -- "A present label of length 0 is a label and differs from absent"
  unfoldable pub same_optional : Optional n → Optional n → Bool
  same_optional a b = cond a.present (b.present && same a.text b.text) (not b.present)

  pub same_optional_laws : IsPartialEquivalence same_optional
  unfolding same_optional same_text
  same_optional_laws = Prim.search (comparing, rules)

  -- both present, with the same text
  unfoldable pub shares_text : Optional n → Optional n → Bool
  shares_text a b = a.present && b.present && same a.text b.text

  -- its bytes, where it is present
  abbrev pub present_text : Optional n → Option (List ℕ)
  present_text t = cond t.present (Some (text_of t.text)) None

  -- present, with this text
  abbrev pub has_text : List ℕ → Optional n → Bool
  has_text s t = t.present && eq_bytes s (text_of t.text)

  -- within the width with padding zero; of an absent text the whole field is padding
  unfoldable pub optional_fits : Optional n → Bool
  optional_fits t = (t.present || eqb t.text.len 0) && fits n t.text.len t.text.bytes

  -- a present text is admitted, an absent one zero
  unfoldable pub optional_admitted : ℕ → ℕ → ℕ → Optional n → Bool
  optional_admitted least low high t = cond t.present (text_admitted least n low high t.text.len t.text.bytes) (optional_fits t)
