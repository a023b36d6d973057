-- What is counted along moves forward.
use Rattle.std.specs.Prelude.{◌≡◌, ℕ, ◌<◌, ◌≤◌, Bool, true, false, List}
use Rattle.std.specs.Bool.{MatchBool}
use Rattle.qil_semantics.specs.Timeline.{Timeline, moved}
use Rattle.qil_counts.specs.declared.count.Count.{Count}
use Rattle.qil_counts.specs.Counts.{counts_by}
use Rattle.qil_replies.specs.SessionState.{SessionState}
use Rattle.qil_replies.specs.Answers.{is_counted}

-- After k moves from a session's timeline it is here, with these counts; fewer were not enough.
pub record IsCounted {A : Type 0} (s : SessionState A) (k : ℕ) (now : Timeline) (list : List Count) : Type 0 where
  pub moves : now ≡ moved s.program k s.timeline
  pub list_is : list ≡ counts_by s.program s.timeline k
  pub goes : (j : ℕ) → j < k → is_counted s j ≡ false

-- n moves were made, or enough; or one of them found no memory, if moves want some
pub record Counts {A : Type 0} (s : SessionState A) (n : ℕ) (now : Timeline) (list : List Count) (is_short : Bool) : Type 0 where
  pub count : ℕ
  pub few : count ≤ n
  pub so_far : IsCounted s count now list
  pub ends : MatchBool is_short ((count < n) × (is_counted s count ≡ false) × (s.moves_want_memory ≡ true)) (count < n → is_counted s count ≡ true)
