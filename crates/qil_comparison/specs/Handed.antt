-- What the parts of `compare_texts` hand to one another.
use Rattle.std.specs.Prelude.{◌≡◌, ℕ, ◌^◌, ◌<◌, false, List, [], take, Option, Some, Result, Ok, Err, IfSome}
use Rattle.std.specs.Io.KnownBytes.{Appends, Consumes}
use Rattle.qil_streams.specs.Device.{IsPrefixOf}
use Rattle.qil_streams.specs.Script.{lines_of, whole_lines_of}
use Rattle.qil_tree.specs.declared.tree.Program.{Program}
use Rattle.qil_semantics.specs.State.{State, is_final}
use Rattle.qil_semantics.specs.Targets.{after}
use Rattle.qil_semantics.specs.Timeline.{begun, moved}
use Rattle.qil_streams.specs.declared.put.PutError.{PutError}
use Rattle.qil_semantics.specs.declared.start.StartFault.{StartFault}
use Rattle.qil_loading.specs.Load.{Refuses}
use Rattle.qil_loading.specs.declared.load.LoadError.{LoadError}
use Rattle.qil_loading.specs.declared.load.LoadError.TheVariants as errors
use Rattle.qil_loading.specs.declared.refusal.Refusal.TheVariants as refusals
use Rattle.qil_replies.specs.SessionState.{SessionState}
use Rattle.qil_replies.specs.Answers.{IsAnswered, quits}
use Rattle.qil_session.specs.declared.serving.IoFault.{IoFault}
use Rattle.qil_session.specs.declared.serving.IoFault.TheVariants.{Read, Write, TooLong}
use Rattle.qil_session.specs.Serve.{IsTooLong}
use Rattle.qil_compare.specs.declared.comparing.Verdict.{Verdict}
use Rattle.qil_compare.specs.declared.comparing.Answer.{Answer}
use Rattle.qil_compare.specs.Answer as comparing
use Rattle.qil_comparison.specs.declared.sides.Reported.{Reported}
use Rattle.qil_comparison.specs.Told.{told_text}
use Rattle.qil_comparison.specs.declared.request.SideName.{SideName}
use Rattle.qil_comparison.specs.declared.request.Text.{Text}
use Rattle.qil_comparison.specs.declared.request.Request.{Request}
use Rattle.qil_comparison.specs.declared.outcome.Outcome.{Outcome}
use Rattle.qil_comparison.specs.declared.outcome.Outcome.TheVariants as outcomes
use Rattle.qil_comparison.specs.Compared.{Setup, IsRefusedOn, refusal_text}

-- ---- moves

-- a run makes so many moves, and more are in reach of a history
abbrev pub GoesTo : {A : Type 0} → Program A → State → ℕ → Type 0
GoesTo p s k = (k < 2 ^ 60) × ((j : ℕ) → j < k → is_final (after p s j).status ≡ false)

-- ---- loading

-- a program can't be started for that
abbrev pub StartRefuses : Result State StartFault → LoadError → Type 0
StartRefuses r (errors.Refused (refusals.Start fault)) = r ≡ Err fault
StartRefuses r error = ⊥

-- a text is refused for that, or memory ran out
abbrev pub IsUnloaded : Type 0 → Text → Request → LoadError → Type 0
IsUnloaded A text r (errors.Refused refusal) = Refuses A text.bytes.now r.func.now r.args.now refusal
IsUnloaded A text r errors.OutOfMemory = Unit {0}

-- the same of one of two texts, which are looked at one after the other
abbrev pub IsUnloadedOn : Type 0 → Setup → SideName → LoadError → Type 0
IsUnloadedOn A s side (errors.Refused refusal) = IsRefusedOn A s side refusal
IsUnloadedOn A s side errors.OutOfMemory = Unit {0}

-- the line of a refusal was written, or the sink failed in it; as memory ran out nothing was written
abbrev pub IsRefused : Outcome → List ℕ → LoadError → Option (List ℕ) → Option (List ℕ) → Type 0
IsRefused outcomes.Refused name (errors.Refused refusal) before after = Appends before after (refusal_text name refusal)
IsRefused outcomes.WriteFault name (errors.Refused refusal) before after =
    (prefix : List ℕ) × IsPrefixOf prefix (refusal_text name refusal) × Appends before after prefix
IsRefused outcomes.Memory name errors.OutOfMemory before after = after ≡ before
IsRefused _ _ _ before after = ⊥

-- ---- comparing

-- A text is the report on two runs, of p from s and of q from t, which made k and j moves: whatever is kept of these.
pub record IsReported {A : Type 0} (r : Request) (p q : Program A) (s t : State) (k j : ℕ) (answer : Answer) (text : List ℕ) : Type 0 where
  pub answered : (keeps others : Option ℕ) → comparing.IsAnswered r.kinds r.limit p q (begun keeps s) (moved p k (begun keeps s)) (begun others t) (moved q j (begun others t)) answer
  pub told : (keeps others : Option ℕ) → text ≡ told_text p q (moved p k (begun keeps s)) (moved q j (begun others t)) answer
  pub good_goes : GoesTo p s k
  pub bad_goes : GoesTo q t j

-- all of it was written, or the sink failed in it
abbrev pub IsReport : {A : Type 0} → Request → Program A → Program A → State → State → Result Reported PutError → Option (List ℕ) → Option (List ℕ) → Type 0
IsReport r p q s t (Ok x) before after = (text : List ℕ) × IsReported r p q s t x.good x.bad x.answer text × Appends before after text
IsReport r p q s t (Err e) before after =
    (k j : ℕ) × (answer : Answer) × (text : List ℕ) × IsReported r p q s t k j answer text × ((prefix : List ℕ) × IsPrefixOf prefix text × Appends before after prefix)

-- ---- serving

-- what is answered of a comparison that told this, once a script was served
abbrev pub served_outcome : {T : Type 0} → Result T IoFault → Verdict → Outcome
served_outcome (Ok x) told = outcomes.Told told
served_outcome (Err Read) told = outcomes.ReadFault
served_outcome (Err Write) told = outcomes.WriteFault
served_outcome (Err TooLong) told = outcomes.TooLong

-- What was written of the answers to a script, by what is answered of a comparison that told this.
abbrev pub IsServedBy : {A : Type 0} → Outcome → Verdict → SessionState A → List ℕ → Option (List ℕ) → List ℕ → Type 0
IsServedBy (outcomes.Told verdict) told s script left text = (verdict ≡ told) × IsAnswered s (lines_of script) text × ¬ IsTooLong script
IsServedBy outcomes.Unserved told s script left text = text ≡ []
IsServedBy outcomes.ReadFault told s script left text =
    (read : List ℕ) × Consumes (Some script) left read × IsAnswered s (whole_lines_of read) text × (quits (whole_lines_of read) ≡ false)
IsServedBy outcomes.WriteFault told s script left text = (all : List ℕ) × IsAnswered s (lines_of script) all × IsPrefixOf text all
IsServedBy outcomes.TooLong told s script left text = IsAnswered s (whole_lines_of (take (2 ^ 24) script)) text × IsTooLong script
IsServedBy _ told s script left text = ⊥

-- the same, as far as the script is known
abbrev pub IsServedAt : {A : Type 0} → Outcome → Verdict → SessionState A → Option (List ℕ) → Option (List ℕ) → Option (List ℕ) → Option (List ℕ) → Type 0
IsServedAt outcome told s known left before after = IfSome known (λ script. (text : List ℕ) × Appends before after text × IsServedBy outcome told s script left text)
