-- Open without it: the function knows too many facts for a search, so the law is given those that it stands on.
use Rattle.std.proofs.Common.{rules}
use Rattle.stored_tapes.proofs.Reading.{extent_replayed}
use Rattle.stored_tapes.proofs.replay_next.Goals as goal

pub returns : goal.returns
returns g c = extent_replayed _ c.args.head.now c.read_both.new.name c.read_both.new.tape _ _ _ _ _ (search rules) (search (rules, c.read_both.ensures.name_length)) (search (rules, c.read_both.ensures.tape_length)) c.in_ok-read_both.ensures.read c.in_ok-print_name.ensures c.replay_extent.ensures
