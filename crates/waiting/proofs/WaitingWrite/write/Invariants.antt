use Rattle.std.specs.Io.KnownBytes.{Keeps}
use Rattle.waiting.proofs.WaitingWrite.write.Given as goal

abbrev pub invariant-loop : goal.invariant-loop
invariant-loop g l = Keeps (g.S.Write.contents l.initial.self.stream) (g.S.Write.contents l.self.stream)
