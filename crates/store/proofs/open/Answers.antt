-- Open without them: each way out by one law.
use Rattle.std.proofs.Common.{rules}
use Rattle.store.proofs.Opening.{cut_short}
use Rattle.store.proofs.open.Goals as goal

pub returns-then-opening_bytes-eq0 : goal.returns-then-opening_bytes-eq0
returns-then-opening_bytes-eq0 c = search (rules, cut_short)
