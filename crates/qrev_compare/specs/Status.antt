-- The status that the process ends with.
use Rattle.std.specs.Prelude.{ℕ}
use Rattle.qil_compare.specs.declared.comparing.Verdict.{Verdict}
use Rattle.qil_compare.specs.declared.comparing.Verdict.TheVariants as verdicts
use Rattle.qil_comparison.specs.declared.outcome.Outcome.{Outcome}
use Rattle.qil_comparison.specs.declared.outcome.Outcome.TheVariants as outcomes

-- after that was told
abbrev pub told_status : Verdict → ℕ
told_status verdicts.Same = 0
told_status verdicts.Part = 1
told_status verdicts.Limit = 4

-- after a comparison
abbrev pub outcome_status : Outcome → ℕ
outcome_status (outcomes.Told verdict) = told_status verdict
outcome_status outcomes.ReadFault = 2
outcome_status outcomes.WriteFault = 2
outcome_status outcomes.TooLong = 2
outcome_status outcomes.Unserved = 3
outcome_status outcomes.Memory = 3
outcome_status outcomes.Refused = 65
