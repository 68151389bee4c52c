use Rattle.std.proofs.Common.{take, drop}
use Rattle.std.specs.List.{concat}
use Rattle.dump.proofs.Gathering.{all_lines}
use Rattle.dump.specs.Dump.{dump_lines}
use Rattle.layout.specs.Layout.{store_of}
use Rattle.printing.proofs.Sending.{sent_behind}
use Rattle.dump.proofs.dump_store.Goals as goal

pub returns-in_err-emit : goal.returns-in_err-emit
returns-in_err-emit g c =
    let lines = dump_lines (store_of c.args.store.now) in
    let next = c.gather-next.result in
    let front = concat (take c.loop-from.from lines) in
    let block = c.gather-next.new.block.bytes in
    rw (all_lines lines next front block c.gather-next.ensures.joined)
    (sent_behind front block (concat (drop next lines)) c.loop-from.invariant.sent
    (rw (c.as_bytes.ensures.value, c.deref.ensures.0) at c.emit.ensures) c.from_residual.result c.from_residual.ensures.0)
