-- Known bytes that stay as they were. Assumes nothing.
use Rattle.std.proofs.KnownBytes.{Keeps-refl, Keeps-trans}

pub ruleset keeping = (Keeps-refl, Keeps-trans)
