-- What is written of two texts: the refusal of one of them; or the report of where their runs part, and what a script is
-- answered there.
use Rattle.std.specs.Prelude.{◌≡◌, ℕ, ◌+◌, ◌^◌, ◌⊎◌, Bool, true, false, List, [], ◌∷◌, ◌++◌, take, codes, Option, Some, None, IfSome, is_some}
use Rattle.std.specs.Io.KnownBytes.{Appends, Consumes}
use Rattle.qil_tree.specs.declared.tree.Program.{Program}
use Rattle.qil_rules.specs.Verdict as accepted
use Rattle.qil_streams.specs.Device.{IsPrefixOf}
use Rattle.qil_streams.specs.Script.{lines_of, whole_lines_of}
use Rattle.qil_fragments.specs.Texts.{text_of}
use Rattle.qil_semantics.specs.State.{State}
use Rattle.qil_semantics.specs.Timeline.{Timeline, begun}
use Rattle.qil_loading.specs.Load.{Refuses}
use Rattle.qil_loading.specs.Lines.{refused_line}
use Rattle.qil_loading.specs.declared.refusal.Refusal.{Refusal}
use Rattle.qil_replies.specs.SessionState.{SessionState, session_at}
use Rattle.qil_replies.specs.Answers as sessions
use Rattle.qil_replies.specs.Answers.{quits}
use Rattle.qil_replies.specs.Transcript as scripts
use Rattle.qil_replies.specs.Transcript.{Begins}
use Rattle.qil_session.specs.Serve.{IsTooLong}
use Rattle.qil_compare.specs.declared.comparing.Verdict.{Verdict}
use Rattle.qil_compare.specs.declared.comparing.Verdict.TheVariants.{Same, Part, Limit}
use Rattle.qil_compare.specs.declared.comparing.Answer.{Answer}
use Rattle.qil_compare.specs.Answer.{Run, run_of, IsAnswered}
use Rattle.qil_compare.specs.Longest.{HaveLongest, HaveSame, AgreeSoFar}
use Rattle.qil_comparison.specs.declared.request.SideName.{SideName}
use Rattle.qil_comparison.specs.declared.request.SideName.TheVariants.{Good, Bad}
use Rattle.qil_comparison.specs.declared.request.Text.{Text}
use Rattle.qil_comparison.specs.declared.request.Request.{Request}
use Rattle.qil_comparison.specs.declared.outcome.Outcome.{Outcome}
use Rattle.qil_comparison.specs.declared.outcome.Outcome.TheVariants as outcomes
use Rattle.qil_comparison.specs.Told.{told_text}

-- what is compared: two texts, and what is run of both
pub record Setup : Type 0 where
  pub good : Text
  pub bad : Text
  pub request : Request

abbrev pub setup_of : Text → Text → Request → Setup
setup_of good bad r = record { good = good; bad = bad; request = r }

-- ---- two programs at their starts

-- How many moves a side keeps: as many as the bound. Without one the side of the session keeps all, and any other none.
abbrev pub keeps : Option ℕ → Option SideName → SideName → Option ℕ
keeps (Some n) session side = Some n
keeps None (Some Good) Good = None
keeps None (Some Bad) Bad = None
keeps None session side = Some 0

-- a text as `debug` is given it
abbrev pub opened_as : Text → Request → SideName → scripts.Setup
opened_as text r side = record { text = text.bytes.now; entry = r.func.now; args = r.args.now; limit = r.limit; keeps = keeps r.bound r.session side; moves_want_memory = is_some r.bound }

abbrev pub good_setup : Setup → scripts.Setup
good_setup s = opened_as s.good s.request Good

abbrev pub bad_setup : Setup → scripts.Setup
bad_setup s = opened_as s.bad s.request Bad

-- both texts are programs, which start in these states
pub record Begin {A : Type 0} (s : Setup) (good bad : accepted.Verdict A) (good_start bad_start : State) : Type 0 where
  pub good_begins : Begins (good_setup s) good good_start
  pub bad_begins : Begins (bad_setup s) bad bad_start

abbrev pub good_begun : Setup → State → Timeline
good_begun s start = begun (good_setup s).keeps start

abbrev pub bad_begun : Setup → State → Timeline
bad_begun s start = begun (bad_setup s).keeps start

-- ---- where their runs part

-- What the number is that is told of two runs. Where they part: the length of the longest list with which the events of both
-- begin. Where they are the same: how many events each of them has. Else the events of both begin with the same ones, so many.
abbrev pub NumberIs : {A : Type 0} → Run A → Run A → Verdict → ℕ → Type 0
NumberIs r q Part n = HaveLongest r q n
NumberIs r q Same n = HaveSame r q n
NumberIs r q verdict n = AgreeSoFar r q n

-- a session without stops; without a bound it goes back by copies of states, so no move of it wants memory
abbrev pub session_on : {A : Type 0} → Bool → Program A → Timeline → ℕ → SessionState A
session_on wants_memory p t limit = session_at wants_memory p t (record { given = 0; kept = [] }) limit

-- the session on the side that one is asked of, where its run came to
abbrev pub session_there : {A : Type 0} → Request → Option SideName → Program A → Program A → Timeline → Timeline → Option (SessionState A)
session_there r None p q t u = None
session_there r (Some Good) p q t u = Some (session_on (is_some r.bound) p t r.limit)
session_there r (Some Bad) p q t u = Some (session_on (is_some r.bound) q u r.limit)

-- what the lines of a script may be answered there; nothing without a session
abbrev pub AreAnswers : {A : Type 0} → Option (SessionState A) → List (List ℕ) → List ℕ → Type 0
AreAnswers None lines text = text ≡ []
AreAnswers (Some s) lines text = sessions.IsAnswered s lines text

-- Both texts start, and were run side by side to where the timelines `good_now` and `bad_now` end: that was told, and then the
-- lines were answered.
pub record IsComparison (A : Type 0) (s : Setup) (verdict : Verdict) (lines : List (List ℕ)) (written : List ℕ) : Type 0 where
  pub good : accepted.Verdict A
  pub bad : accepted.Verdict A
  pub good_start : State
  pub bad_start : State
  pub begin : Begin s good bad good_start bad_start
  pub good_now : Timeline
  pub bad_now : Timeline
  pub answer : Answer
  pub answered : IsAnswered s.request.kinds s.request.limit good.program bad.program (good_begun s good_start) good_now (bad_begun s bad_start) bad_now answer
  pub verdict_is : answer.verdict ≡ verdict
  pub number : NumberIs (run_of s.request.kinds good.program bad.program (good_begun s good_start)) (run_of s.request.kinds bad.program good.program (bad_begun s bad_start)) verdict answer.events
  pub answers : List ℕ
  pub answers_are : AreAnswers (session_there s.request s.request.session good.program bad.program good_now bad_now) lines answers
  pub written_is : written ≡ told_text good.program bad.program good_now bad_now answer ++ answers

-- ---- refusals

abbrev pub text_on : Setup → SideName → Text
text_on s Good = s.good
text_on s Bad = s.bad

-- which text is refused for what: the good one is looked at first, and wholly
abbrev pub IsRefusedOn : Type 0 → Setup → SideName → Refusal → Type 0
IsRefusedOn A s Good refusal = Refuses A s.good.bytes.now s.request.func.now s.request.args.now refusal
IsRefusedOn A s Bad refusal =
    (good : accepted.Verdict A) × (start : State) × Begins (good_setup s) good start × Refuses A s.bad.bytes.now s.request.func.now s.request.args.now refusal

-- the line of a refusal, after the name of its file
abbrev pub refusal_text : List ℕ → Refusal → List ℕ
refusal_text name refusal = text_of (name ∷ codes ": " ∷ []) ++ refused_line refusal

pub record IsRefusal (A : Type 0) (s : Setup) (written : List ℕ) : Type 0 where
  pub side : SideName
  pub refusal : Refusal
  pub refused : IsRefusedOn A s side refusal
  pub written_is : written ≡ refusal_text (text_on s side).name.now refusal

-- ---- what is written

-- all that should be written, if the script has these lines
abbrev pub IsWhole : Type 0 → Setup → List (List ℕ) → List ℕ → Type 0
IsWhole A s lines written = IsRefusal A s written ⊎ ((verdict : Verdict) × IsComparison A s verdict lines written)

-- What was written, by what `compare_texts` answers. `left` is what the source has left of the script.
abbrev pub Leaves : Type 0 → Outcome → Setup → List ℕ → Option (List ℕ) → List ℕ → Type 0
-- the report, and all answers
Leaves A (outcomes.Told verdict) s script left written =
    IsComparison A s verdict (lines_of script) written × IfSome s.request.session (λ side. ¬ IsTooLong script)
Leaves A outcomes.Refused s script left written = IsRefusal A s written
-- the report, and no answer
Leaves A outcomes.Unserved s script left written = (verdict : Verdict) × IsComparison A s verdict [] written
-- the answers to the lines that end among the first 2^24 bytes
Leaves A outcomes.TooLong s script left written = (verdict : Verdict) × IsComparison A s verdict (whole_lines_of (take (2 ^ 24) script)) written × IsTooLong script
-- the answers to the whole lines that were read, none of which quits
Leaves A outcomes.ReadFault s script left written =
    (verdict : Verdict) × (read : List ℕ) × Consumes (Some script) left read × IsComparison A s verdict (whole_lines_of read) written × (quits (whole_lines_of read) ≡ false)
-- a prefix of all
Leaves A outcomes.WriteFault s script left written = (all : List ℕ) × IsWhole A s (lines_of script) all × IsPrefixOf written all
Leaves A outcomes.Memory s script left written = written ≡ []

-- what the devices hold after `compare_texts`
abbrev pub Written : Type 0 → Outcome → Setup → Option (List ℕ) → Option (List ℕ) → Option (List ℕ) → Option (List ℕ) → Type 0
Written A outcome s known left before after =
    IfSome known (λ script. (written : List ℕ) × Appends before after written × Leaves A outcome s script left written)

-- which device's faults rose, and by how much
abbrev pub CountsFaults : Outcome → ℕ → ℕ → ℕ → ℕ → Type 0
CountsFaults outcomes.ReadFault reads reads' writes writes' = (reads' ≡ reads + 1) × (writes' ≡ writes)
CountsFaults outcomes.WriteFault reads reads' writes writes' = (reads' ≡ reads) × (writes' ≡ writes + 1)
CountsFaults _ reads reads' writes writes' = (reads' ≡ reads) × (writes' ≡ writes)

-- a source that no script was read from is as it was
abbrev pub IsUntouched : {S : Type 0} → Outcome → S → S → Type 0
IsUntouched outcomes.Refused old new = new ≡ old
IsUntouched outcomes.Unserved old new = new ≡ old
IsUntouched outcomes.Memory old new = new ≡ old
IsUntouched _ old new = Unit {0}

-- nothing was compared
abbrev pub IsUncompared : Outcome → Type 0
IsUncompared outcomes.Refused = Unit {0}
IsUncompared outcomes.WriteFault = Unit {0}
IsUncompared outcomes.Memory = Unit {0}
IsUncompared _ = ⊥
