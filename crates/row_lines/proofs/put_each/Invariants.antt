use Rattle.std.proofs.Common.{◌≡◌, ◌+◌, ◌*◌, ◌≤◌, ◌++◌, take}
use Rattle.std.specs.List.{flat_map}
use Rattle.arrayvec.specs.ArrayString.{array_string_len}
use Rattle.row_lines.proofs.put_each.Given as goal

abbrev pub invariant-loop-x : goal.invariant-loop-x
invariant-loop-x g l = record {
  written : l.out.bytes ≡ l.initial.out.bytes ++ flat_map g.T.Printed.text (take l.x-index l.list);
  short : array_string_len l.out ≤ array_string_len l.initial.out + g.T.Printed.room * l.x-index;
}
