use Rattle.std.specs.Prelude.{◌≡◌, ◌++◌, take, drop}
use Rattle.lupinadze.proofs.given.give_key.Given as goal

abbrev pub invariant-loop-i : goal.invariant-loop-i
invariant-loop-i l = l.out ≡ take l.i l.key ++ drop l.i l.initial.out
