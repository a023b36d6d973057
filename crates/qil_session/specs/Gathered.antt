-- What is gathered along moves forward.
use Rattle.std.specs.Prelude.{◌≡◌, ℕ, ◌<◌, ◌≤◌, Bool, true, false, List}
use Rattle.std.specs.Bool.{MatchBool}
use Rattle.qil_semantics.specs.Timeline.{Timeline, moved}
use Rattle.qil_accesses.specs.declared.access.Access.{Access}
use Rattle.qil_accesses.specs.Accesses.{accesses_by}
use Rattle.qil_replies.specs.SessionState.{SessionState}
use Rattle.qil_replies.specs.Answers.{is_enough}

-- After k moves from a session's timeline it is here, with these accesses of the m bytes from a on; fewer were not enough.
pub record IsGathered {A : Type 0} (s : SessionState A) (a m k : ℕ) (now : Timeline) (list : List Access) : Type 0 where
  pub moves : now ≡ moved s.program k s.timeline
  pub list_is : list ≡ accesses_by s.program a m s.timeline k
  pub goes : (j : ℕ) → j < k → is_enough s a m j ≡ false

-- n moves were made, or enough; or one of them found no memory, if moves want some
pub record Gathers {A : Type 0} (s : SessionState A) (a m n : ℕ) (now : Timeline) (list : List Access) (is_short : Bool) : Type 0 where
  pub count : ℕ
  pub few : count ≤ n
  pub so_far : IsGathered s a m count now list
  pub ends : MatchBool is_short ((count < n) × (is_enough s a m count ≡ false) × (s.moves_want_memory ≡ true)) (count < n → is_enough s a m count ≡ true)
