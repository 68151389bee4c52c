-- What a check gives that hands a value on. Assumes nothing.
use Rattle.std.specs.Prelude.{◌≡◌, false, Result, MatchResult}
use Rattle.metadata.specs.Answers.{is_applied}
use Rattle.metadata.specs.declared.Answer.{Answer}
use Rattle.metadata.specs.declared.Answer.TheVariants as A

-- it passes, with P of the value, where the answer is Applied, and else hands the answer on
abbrev pub HandsOn : {X : Type 0} → Result X Answer → Answer → (X → Type 0) → Type 0
HandsOn r a P = MatchResult r (λ x. (a ≡ A.Applied) × P x) (λ e. (a ≡ e) × (is_applied e ≡ false))
