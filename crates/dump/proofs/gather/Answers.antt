use Rattle.std.proofs.Common.{arith, ◌∙◌, ap, ◌++◌}
use Rattle.dump.proofs.Gathering.{few_lines, is_there, line_added}
use Rattle.dump.specs.Dump.{dump_lines}
use Rattle.layout.specs.Layout.{store_of}
use Rattle.dump.proofs.gather.Goals as goal

pub overflow_add-next : goal.overflow_add-next
overflow_add-next c =
    let lines = dump_lines (store_of c.args.store.now) in
    omega (arith, few_lines c.args.store.now, is_there lines c.loop-line.next c.if-not-put_line_at.ensures)

pub loop-line-preserved : goal.loop-line-preserved
loop-line-preserved c =
    let lines = dump_lines (store_of c.args.store.now) in
    let there = is_there lines c.loop-line.next c.if-not-put_line_at.ensures in
    record {
      joined =
          line_added lines c.loop-line.next c.if-not-put_line_at.ensures _ c.loop-line.block.bytes c.loop-line.invariant.joined
          (c.push_str.ensures.bytes ∙ ap (λ t. c.loop-line.block.bytes ++ t) c.as_str.ensures.value);
      forward = omega (arith, c.loop-line.invariant.forward);
      within = omega (arith, there);
      none = λ e. absurd (omega (arith, e, c.loop-line.invariant.forward));
    }
