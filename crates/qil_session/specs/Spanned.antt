-- What is noted of frames along moves forward.
use Rattle.std.specs.Prelude.{◌≡◌, ℕ, ◌<◌, ◌≤◌, Bool, true, false}
use Rattle.std.specs.Bool.{MatchBool}
use Rattle.qil_semantics.specs.Timeline.{Timeline, moved}
use Rattle.qil_spans.specs.Table.{IsKept, Kept}
use Rattle.qil_replies.specs.SessionState.{SessionState}
use Rattle.qil_replies.specs.Answers.{is_spanned}

-- After k moves from a session's timeline it is here, and this is kept of the frames; fewer were not enough.
pub record IsSpanned {A : Type 0} (s : SessionState A) (d k : ℕ) (now : Timeline) (kept : Kept) : Type 0 where
  pub moves : now ≡ moved s.program k s.timeline
  pub frames : IsKept s.program s.timeline d k kept
  pub goes : (j : ℕ) → j < k → is_spanned s d j ≡ false

-- n moves were made, or enough; or one of them found no memory, if moves want some
pub record Spans {A : Type 0} (s : SessionState A) (d n : ℕ) (now : Timeline) (kept : Kept) (is_short : Bool) : Type 0 where
  pub count : ℕ
  pub few : count ≤ n
  pub so_far : IsSpanned s d count now kept
  pub ends : MatchBool is_short ((count < n) × (is_spanned s d count ≡ false) × (s.moves_want_memory ≡ true)) (count < n → is_spanned s d count ≡ true)
