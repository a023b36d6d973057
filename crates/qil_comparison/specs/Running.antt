-- What is seen of a run that is compared: the machine by numbers, and how many moves were made.
use Rattle.std.specs.Prelude.{ℕ}
use Rattle.qil_state.specs.State.{Whole}

pub record Running (A : Type 0) : Type 0 where
  pub whole : Whole A
  pub moves : ℕ
