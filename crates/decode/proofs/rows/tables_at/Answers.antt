-- Open without it: that the rows read are the first of the list. Found from two laws, which `using` on the function would try at every goal.
use Rattle.std.proofs.Common.{rules}
use Rattle.std.proofs.lemmas.List.{length-take}
use Rattle.decode.proofs.Listed.{front_of}
use Rattle.decode.proofs.rows.tables_at.Goals as goal

pub returns : goal.returns
returns c = search (rules, front_of, length-take)
