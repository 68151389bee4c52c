-- Open without it: where nothing is left, both clauses by the fact that an arm before took a command cut short, which is a function.
use Rattle.streaming.proofs.Finishing.{nothing_sent, whole_ended}
use Rattle.streaming.proofs.finish.Goals as goal

pub returns-in_default : goal.returns-in_default
returns-in_default g c =
    record {
      sent = nothing_sent c.args.unrun.now c.args.line c.next_at.result c.next_at.ensures (g.W.Write.contents c.args.out.now) (g.W.Write.contents c.args.out.now) c.requires c.in_default.not-Cut;
      how = whole_ended c.args.unrun.now c.args.line c.next_at.result c.next_at.ensures (g.W.Write.contents c.args.out.now) (g.W.Write.contents c.args.out.now) c.requires c.in_default.not-Cut;
    }
