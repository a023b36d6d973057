-- The status that the process ends with after a session.
use Rattle.std.specs.Prelude.{ℕ}
use Rattle.qil_transcript.specs.declared.outcome.Outcome.{Outcome}
use Rattle.qil_transcript.specs.declared.outcome.Outcome.TheVariants as outcome

abbrev pub outcome_status : Outcome → ℕ
outcome_status outcome.Ended = 0
outcome_status outcome.Refused = 1
outcome_status outcome.ReadFault = 2
outcome_status outcome.WriteFault = 2
outcome_status outcome.TooLong = 2
outcome_status outcome.Memory = 3
