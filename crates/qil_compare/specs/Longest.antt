-- What an answer says of all events of two runs, however far they are run.
use Rattle.std.specs.Prelude.{◌≡◌, ℕ, ◌<◌, ◌≤◌, true, false, List, ◌++◌, length}
use Rattle.qil_semantics.specs.State.{is_final}
use Rattle.qil_compare.specs.Events.{Event}
use Rattle.qil_compare.specs.Answer.{Run, state_after, first_events}

-- a list is a front of the events of a run: so many steps, which the run makes before it is over, have these events first
pub record IsFront {A : Type 0} (r : Run A) (front : List Event) : Type 0 where
  pub steps : ℕ
  pub runs : (j : ℕ) → j < steps → is_final (state_after r j).status ≡ false
  pub others : List Event
  pub has : first_events r steps ≡ front ++ others

-- the longest list that is a front of both has so many events
pub record HaveLongest {A : Type 0} (r q : Run A) (n : ℕ) : Type 0 where
  pub front : List Event
  pub count : length front ≡ n
  pub of_good : IsFront r front
  pub of_bad : IsFront q front
  pub longest : (other : List Event) → IsFront r other → IsFront q other → length other ≤ n

-- these are all events of a run: it is over after so many steps
pub record AreAll {A : Type 0} (r : Run A) (events : List Event) : Type 0 where
  pub steps : ℕ
  pub runs : (j : ℕ) → j < steps → is_final (state_after r j).status ≡ false
  pub over : is_final (state_after r steps).status ≡ true
  pub all : first_events r steps ≡ events

-- both runs have the same events, so many
pub record HaveSame {A : Type 0} (r q : Run A) (n : ℕ) : Type 0 where
  pub events : List Event
  pub count : length events ≡ n
  pub of_good : AreAll r events
  pub of_bad : AreAll q events

-- a list of so many events is a front of both
pub record AgreeSoFar {A : Type 0} (r q : Run A) (n : ℕ) : Type 0 where
  pub front : List Event
  pub count : length front ≡ n
  pub of_good : IsFront r front
  pub of_bad : IsFront q front
