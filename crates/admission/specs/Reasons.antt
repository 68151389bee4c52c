-- The numbers of the reasons (document 01, "Room and admission"). Assumes nothing.
use Rattle.std.specs.Prelude.{ℕ, Result, Ok, Err}
use Rattle.admission.specs.declared.reasons.Reason.{Reason}
use Rattle.admission.specs.declared.reasons.Reason.TheVariants as R

abbrev pub reason_number : Reason → ℕ
reason_number R.ZeroId = 1
reason_number R.Text = 2
reason_number R.EqualEndpoints = 3
reason_number R.BlankClass = 4
reason_number R.UnknownVariant = 5
reason_number R.Partition = 6
reason_number R.Replicas = 7
reason_number R.Minima = 8
reason_number R.Leaders = 9
reason_number R.Opening = 10
reason_number R.UnsoundStore = 12

-- 0 where nothing is refused
abbrev pub reason_of : {X : Type 0} → Result X Reason → ℕ
reason_of (Ok x) = 0
reason_of (Err r) = reason_number r
