-- The order of byte strings is the library's order of slices.
use Rattle.std.specs.Prelude.{◌≡◌, ℕ, Bool, true, false, cond, ◌&&◌, ◌||◌, nat_lt, nat_eq, List, [], ◌∷◌}
use Rattle.std.proofs.Common.{refl, Ordering}
use Rattle.std.specs.Cmp.Lexicographic.{slice_cmp}
use Rattle.std.specs.declared.cmp.Ordering.TheVariants.{Less, Equal, Greater}
use Rattle.std.specs.Ordering.{is_le, nat_cmp, ordering_then}
use Rattle.text.specs.Ranges.{lex_leb}

step : (s t u : Bool) (o : Ordering) → is_le o ≡ u → is_le (ordering_then (cond s Less (cond t Equal Greater)) o) ≡ (s || t && u)
step true t u o h = refl
step false true u o h = h
step false false u o h = refl

pub lex_is : (a b : List ℕ) → is_le (slice_cmp nat_cmp a b) ≡ lex_leb a b
unfolding lex_leb
lex_is [] [] = refl
lex_is [] (y ∷ b) = refl
lex_is (x ∷ a) [] = refl
lex_is (x ∷ a) (y ∷ b) = step (nat_lt x y) (nat_eq x y) (lex_leb a b) (slice_cmp nat_cmp a b) (lex_is a b)
