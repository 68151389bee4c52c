-- Open without it: the law of a call that had one answer.
use Rattle.std.proofs.Common.{refl}
use Rattle.vectors_apply.proofs.Applying.{one_answer}
use Rattle.vectors_apply.proofs.apply_one.Goals as goal

pub returns : goal.returns
returns g c = one_answer _ _ _ _ _ _ _ _ _ _ _ c.apply.ensures c.in-Ok-eq1.is c.in-Ok-eq1.field-0-test refl c.print_answer.ensures
