-- Open without them: each way out by one law.
use Rattle.lupinadze.proofs.Opening.{left_alone, answered, no_store}
use Rattle.lupinadze.proofs.calls.lupinadze_open.Goals as goal

pub returns-then-out-lt4 : goal.returns-then-out-lt4
returns-then-out-lt4 c = left_alone c.args.store.now c.args.opening.now c.args.out.now c.no_room.ensures c.if-out-lt4.true

pub returns-in-Ok : goal.returns-in-Ok
returns-in-Ok c =
    answered c.args.store.now c.args.opening.now c.args.out.now c.in-Ok.ensures c.write_answer.ensures.answer c.opening_bytes.ensures c.if-out-lt4.false

pub returns-in-Err : goal.returns-in-Err
returns-in-Err c = no_store c.args.store.now c.args.opening.now c.args.out.now c.in-Err.ensures c.code.ensures
