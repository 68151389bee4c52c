use Rattle.std.specs.Prelude.{◌≤◌, [], true}
use Rattle.streaming.specs.Stages.{Advanced}
use Rattle.input.specs.Filled.{rest}
use Rattle.streaming.proofs.run_all.Given as goal

abbrev pub invariant-loop : goal.invariant-loop
invariant-loop g l =
    record {
      inside : l.place.at ≤ l.buffer.have;
      advanced :
          Advanced
          (record { unrun = rest l.initial.buffer l.fn.from.at; store = l.initial.store; line = l.fn.from.line; unread = g.R.Read.remaining l.initial.input; output = g.W.Write.contents l.initial.out })
          (record { unrun = rest l.buffer l.place.at; store = l.store; line = l.place.line; unread = g.R.Read.remaining l.input; output = g.W.Write.contents l.out })
          [] true;
    }
