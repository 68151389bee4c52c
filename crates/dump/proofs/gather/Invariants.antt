use Rattle.std.proofs.Common.{◌≡◌, ◌≤◌, ◌-◌, ◌++◌, [], length, take}
use Rattle.std.specs.List.{concat}
use Rattle.dump.specs.Dump.{dump_lines}
use Rattle.layout.specs.Layout.{store_of}
use Rattle.dump.proofs.gather.Given as goal

abbrev pub invariant-loop-line : goal.invariant-loop-line
invariant-loop-line l = record {
  joined : concat (take l.from (dump_lines (store_of l.store))) ++ l.block.bytes ≡ concat (take l.next (dump_lines (store_of l.store)));
  forward : l.from ≤ l.next;
  within : l.next ≤ length (dump_lines (store_of l.store));
  none : l.next ≡ l.from → l.block.bytes ≡ [];
}

abbrev pub decreases-loop-line : goal.decreases-loop-line
decreases-loop-line l = length (dump_lines (store_of l.store)) - l.next
