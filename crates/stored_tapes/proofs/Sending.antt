-- A text that was sent whole. Assumes nothing.
use Rattle.std.proofs.Common.{◌≡◌, ℕ, List, length, subst, take_all, arith}
use Rattle.std.specs.Prelude.{Option, Result, Ok, OnOk}
use Rattle.std.specs.Io.KnownBytes.{Appends}
use Rattle.printing.specs.Sent.{Sent}

pub sent_whole : {V E : Type 0} (old new : Option (List ℕ)) (text : List ℕ) (r : Result V E) (v : V) → r ≡ Ok v → Sent old new text r → Appends old new text
sent_whole {V} {E} old new text r v e s =
    let n : s.count ≡ length text = subst (λ (x : Result V E). OnOk x (s.count ≡ length text)) e s.all in
    subst (Appends old new) (take_all s.count text (omega (arith, n))) s.wrote
