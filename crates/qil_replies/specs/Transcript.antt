-- What the transcript of a session is.
use Rattle.std.specs.Prelude.{◌≡◌, ℕ, Bool, List, [], ◌++◌, length, Option, Ok}
use Rattle.qil_tree.specs.declared.tree.Program.{Program}
use Rattle.qil_rules.specs.Verdict.{Verdict}
use Rattle.qil_rules.specs.declared.form.Form.{Form}
use Rattle.qil_layout.specs.Layout.{bytes_of}
use Rattle.qil_semantics.specs.State.{State}
use Rattle.qil_semantics.specs.Start.{start_of}
use Rattle.qil_semantics.specs.Timeline.{Timeline, begun}
use Rattle.qil_loading.specs.Load.{Accepts}
use Rattle.qil_loading.specs.Lines.{loaded_line}
use Rattle.qil_render.specs.Texts.{place_line}
use Rattle.qil_replies.specs.SessionState.{SessionState, session_at}
use Rattle.qil_replies.specs.Answers.{IsAnswered}

-- ---- the load lines

-- the line of what was loaded, and that of the place where the run begins
abbrev pub load_lines : {A : Type 0} → Program A → Form → Timeline → List ℕ
load_lines p form t = loaded_line (length p.funcs) (length (bytes_of p)) form ++ place_line t

-- ---- transcripts

-- What a session is opened with: a text; the function that is run, and its arguments; how many moves `continue` and `reverse`
-- make at most; how many moves the history keeps, if there is a bound; and whether a move may want memory.
pub record Setup : Type 0 where
  pub text : List ℕ
  pub entry : List ℕ
  pub args : List ℕ
  pub limit : ℕ
  pub keeps : Option ℕ
  pub moves_want_memory : Bool

-- the text is a program, which starts in this state
pub record Begins {A : Type 0} (s : Setup) (verdict : Verdict A) (start : State) : Type 0 where
  pub accepts : Accepts s.text verdict
  pub starts : start_of verdict.program s.entry s.args ≡ Ok start

-- a session at the start of a program: no move was made, and there are no stops
abbrev pub opened : {A : Type 0} → Setup → Program A → State → SessionState A
opened s p start = session_at s.moves_want_memory p (begun s.keeps start) (record { given = 0; kept = [] }) s.limit

-- the load lines of an accepted text, and the answers to the lines of a script
pub record IsSession (A : Type 0) (s : Setup) (lines : List (List ℕ)) (written : List ℕ) : Type 0 where
  pub verdict : Verdict A
  pub start : State
  pub begins : Begins s verdict start
  pub answered : List ℕ
  pub answers : IsAnswered (opened s verdict.program start) lines answered
  pub written_is : written ≡ load_lines verdict.program verdict.form (begun s.keeps start) ++ answered
