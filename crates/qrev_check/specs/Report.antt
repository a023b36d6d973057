-- What `report` writes of a text.
use Rattle.std.specs.Prelude.{◌≡◌, ◌⊎◌, ℕ, ◌≤◌, true, Bool, List, [], ◌∷◌, Option, Some, None, Ok}
use Rattle.std.specs.Io.KnownBytes.{Appends}
use Rattle.qil_tree.specs.declared.tree.Func.{Func}
use Rattle.qil_tree.specs.declared.tree.Program.{Program}
use Rattle.qil_rules.specs.Verdict.{Verdict}
use Rattle.qil_streams.specs.Device.{IsPrefixOf}
use Rattle.qil_semantics.specs.State.{State, Status, is_final}
use Rattle.qil_semantics.specs.State as states
use Rattle.qil_semantics.specs.Step.{func_named}
use Rattle.qil_semantics.specs.Start.{started, start_of}
use Rattle.qil_semantics.specs.Targets.{after}
use Rattle.qil_loading.specs.Load.{Accepts, Refuses}
use Rattle.qil_loading.specs.declared.refusal.Refusal.{Refusal}
use Rattle.qil_shadow.specs.Shadow.{shadow_at_start}
use Rattle.qil_shadow.specs.Suspicions.{Suspicion, suspicions}
use Rattle.qil_suspicions.specs.Notes.{Note, noted}
use Rattle.qil_layout_builder.specs.declared.error.LayoutError.{LayoutError}
use Rattle.qil_layout_builder.specs.declared.error.LayoutError.TheVariants as layout
use Rattle.qil_machine.specs.declared.error.StartError.{StartError}
use Rattle.qil_machine.specs.declared.error.StartError.TheVariants as start
use Rattle.qrev_check.specs.declared.report.Request.{Request}
use Rattle.qrev_check.specs.declared.report.Outcome.{Outcome}
use Rattle.qrev_check.specs.declared.report.Outcome.TheVariants as outcomes
use Rattle.qrev_check.specs.Told.{report_text}

-- a text, and what is run of it: a function with arguments, up to so many moves
pub record Setup : Type 0 where
  pub text : List ℕ
  pub entry : List ℕ
  pub args : List ℕ
  pub limit : ℕ

abbrev pub setup_of : List ℕ → Request → Setup
setup_of text r = record { text = text; entry = r.entry.now; args = r.args.now; limit = r.limit }

-- the text is a program, and its run begins in a function of it
pub record Begins {A : Type 0} (s : Setup) (verdict : Verdict A) (func : Func A) (start : State) : Type 0 where
  pub accepts : Accepts s.text verdict
  pub entry : func_named verdict.program.funcs s.entry ≡ Some func
  pub starts : start_of verdict.program s.entry s.args ≡ Ok start

-- so many moves are checked of a run: as many as the limit, and fewer only if it is over
pub record IsChecked {A : Type 0} (limit : ℕ) (p : Program A) (start : State) (moves : ℕ) : Type 0 where
  pub few : moves ≤ limit
  pub all : (moves ≡ limit) ⊎ (is_final (after p start moves).status ≡ true)

-- what they do that no right compiler's output does: of each place and kind the first, and how many there are
abbrev pub notes_of : {A : Type 0} → Program A → Func A → State → ℕ → List Note
notes_of p func start moves = noted (suspicions p start (shadow_at_start p func) moves)

-- what comes of a run without notes, by how it stands
abbrev pub quiet_outcome : Status → Outcome
quiet_outcome states.running = outcomes.Limit
quiet_outcome (states.faulted fault) = outcomes.Fault
quiet_outcome status = outcomes.Nothing

abbrev pub outcome_of : List Note → Status → Outcome
outcome_of [] status = quiet_outcome status
outcome_of (n ∷ ns) status = outcomes.Some

-- The report of a text. From which move on its run may be suspicious of other kinds isn't said.
pub record IsReport (A : Type 0) (s : Setup) (outcome : Outcome) (text : List ℕ) : Type 0 where
  pub verdict : Verdict A
  pub func : Func A
  pub start : State
  pub begins : Begins s verdict func start
  pub moves : ℕ
  pub checked : IsChecked s.limit verdict.program start moves
  pub unsure : Option ℕ
  pub text_is : text ≡ report_text (notes_of verdict.program func start moves) moves unsure
  pub outcome_is : outcome ≡ outcome_of (notes_of verdict.program func start moves) (after verdict.program start moves).status

-- what was written, by what came of it
abbrev pub Leaves : Type 0 → Outcome → Setup → List ℕ → Type 0
Leaves A outcomes.Refused s written = (refusal : Refusal) × Refuses A s.text s.entry s.args refusal × (written ≡ [])
Leaves A outcomes.Memory s written = written ≡ []
-- a prefix of it
Leaves A outcomes.WriteFault s written = (outcome : Outcome) × (text : List ℕ) × IsReport A s outcome text × IsPrefixOf written text
Leaves A outcome s written = IsReport A s outcome written

abbrev pub Written : Type 0 → Outcome → Setup → Option (List ℕ) → Option (List ℕ) → Type 0
Written A outcome s before after = (written : List ℕ) × Appends before after written × Leaves A outcome s written

-- ---- what its parts hand to one another

-- a text was written, or the sink failed in it
abbrev pub IsWritten : Outcome → Outcome → List ℕ → Option (List ℕ) → Option (List ℕ) → Type 0
IsWritten result outcome text before after =
    ((result ≡ outcome) × Appends before after text) ⊎ ((result ≡ outcomes.WriteFault) × (prefix : List ℕ) × IsPrefixOf prefix text × Appends before after prefix)

abbrev pub start_outcome : StartError → Outcome
start_outcome start.OutOfMemory = outcomes.Memory
start_outcome error = outcomes.Refused

abbrev pub layout_outcome : LayoutError → Outcome
layout_outcome layout.OutOfMemory = outcomes.Memory
layout_outcome error = outcomes.Refused
