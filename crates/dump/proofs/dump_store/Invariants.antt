use Rattle.std.proofs.Common.{◌≤◌, ◌-◌, length, take}
use Rattle.std.specs.Prelude.{Ok}
use Rattle.std.specs.List.{concat}
use Rattle.dump.specs.Dump.{dump_lines}
use Rattle.layout.specs.Layout.{store_of}
use Rattle.printing.specs.Sent.{Sent}
use Rattle.dump.proofs.dump_store.Given as goal

abbrev pub invariant-loop-from : goal.invariant-loop-from
invariant-loop-from g l = record {
  sent : Sent {V = Unit} {E = Unit} (g.W.Write.contents l.initial.to) (g.W.Write.contents l.to) (concat (take l.from (dump_lines (store_of l.store)))) (Ok tt);
  within : l.from ≤ length (dump_lines (store_of l.store));
}

abbrev pub decreases-loop-from : goal.decreases-loop-from
decreases-loop-from g l = length (dump_lines (store_of l.store)) - l.from
