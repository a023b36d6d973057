-- How far a script has been answered.
use Rattle.std.specs.Prelude.{◌≡◌, ℕ, List, ◌++◌, false, Option}
use Rattle.qil_streams.proofs.ScriptLemmas.{WholeLines}
use Rattle.qil_replies.specs.SessionState.{SessionState}
use Rattle.qil_replies.specs.Answers.{AreValid, answers, left_by, quits}

-- After these lines, each with its own shortage of memory or none, `reported` was answered and the session is `now`, whatever comes next.
pub record Reported {A : Type 0} (first : SessionState A) (before : List (List ℕ)) (shortages : List (Option ℕ)) (reported : List ℕ) (now : SessionState A) : Type 0 where
  pub goes : quits before ≡ false
  pub valid : (rest : List (List ℕ)) (more : List (Option ℕ)) → AreValid now rest more → AreValid first (before ++ rest) (shortages ++ more)
  pub text : (rest : List (List ℕ)) (more : List (Option ℕ)) → answers first (before ++ rest) (shortages ++ more) ≡ reported ++ answers now rest more
  pub left : (rest : List (List ℕ)) (more : List (Option ℕ)) → left_by first (before ++ rest) (shortages ++ more) ≡ left_by now rest more

-- After the bytes `done`, which are whole lines, `reported` was answered and the session is `now`.
pub record Reached {A : Type 0} (first : SessionState A) (done reported : List ℕ) (now : SessionState A) : Type 0 where
  pub before : List (List ℕ)
  pub shortages : List (Option ℕ)
  pub whole_lines : WholeLines done before
  pub so_far : Reported first before shortages reported now
