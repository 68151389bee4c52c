-- A sound store is as long as a store is. Assumes nothing.
use Rattle.std.specs.Prelude.{◌≡◌, ℕ, true, List, length}
use Rattle.std.proofs.Common.{eqb-true}
use Rattle.laws.proofs.Tests.{each_of}
use Rattle.layout.specs.Layout.{sound}
use Rattle.layout.specs.Places.{store_length}

pub sound_length : (b : List ℕ) → sound b ≡ true → length b ≡ store_length
unfolding sound
sound_length b e = let s = each_of _ e in eqb-true _ _ s.0
