-- What `debug` writes.
use Rattle.std.specs.Prelude.{◌≡◌, ℕ, ◌+◌, ◌^◌, ◌⊎◌, false, List, [], take, Option, Some, IfSome}
use Rattle.std.specs.Io.KnownBytes.{Appends, Consumes}
use Rattle.qil_streams.specs.Device.{IsPrefixOf}
use Rattle.qil_streams.specs.Script.{lines_of, whole_lines_of}
use Rattle.qil_loading.specs.Load.{Refuses}
use Rattle.qil_loading.specs.Lines.{refused_line}
use Rattle.qil_loading.specs.declared.refusal.Refusal.{Refusal}
use Rattle.qil_replies.specs.Answers.{quits}
use Rattle.qil_transcript.specs.declared.outcome.Outcome.{Outcome}
use Rattle.qil_transcript.specs.declared.outcome.Outcome.TheVariants.{Ended, Refused, ReadFault, WriteFault, TooLong, Memory}
use Rattle.qil_session.specs.Serve.{IsTooLong}
use Rattle.qil_replies.specs.Transcript.{Setup, IsSession}

-- ---- transcripts

-- the one line of a refused text
pub record IsRefusal (A : Type 0) (s : Setup) (written : List ℕ) : Type 0 where
  pub refusal : Refusal
  pub refuses : Refuses A s.text s.entry s.args refusal
  pub written_is : written ≡ refused_line refusal

abbrev pub IsTranscript : Type 0 → Setup → List (List ℕ) → List ℕ → Type 0
IsTranscript A s lines written = IsRefusal A s written ⊎ IsSession A s lines written

-- What was written, by what `debug` answers. `left` is what the source has left of the script.
abbrev pub Leaves : Type 0 → Outcome → Setup → List ℕ → Option (List ℕ) → List ℕ → Type 0
-- all answers
Leaves A Ended s script left written = IsSession A s (lines_of script) written × ¬ IsTooLong script
Leaves A Refused s script left written = IsRefusal A s written
-- the answers to the lines that end among the first 2^24 bytes
Leaves A TooLong s script left written = IsSession A s (whole_lines_of (take (2 ^ 24) script)) written × IsTooLong script
-- the answers to the whole lines that were read, none of which quits: after a `quit` no read is made
Leaves A ReadFault s script left written =
    (read : List ℕ) × Consumes (Some script) left read × IsSession A s (whole_lines_of read) written × (quits (whole_lines_of read) ≡ false)
-- a prefix of the transcript
Leaves A WriteFault s script left written = (all : List ℕ) × IsTranscript A s (lines_of script) all × IsPrefixOf written all
Leaves A Memory s script left written = written ≡ []

-- what the devices hold after `debug`
abbrev pub Written : Type 0 → Outcome → Setup → Option (List ℕ) → Option (List ℕ) → Option (List ℕ) → Option (List ℕ) → Type 0
Written A outcome s known left before after =
    IfSome known (λ script. (written : List ℕ) × Appends before after written × Leaves A outcome s script left written)

-- which device's faults rose, and by how much
abbrev pub CountsDebug : Outcome → ℕ → ℕ → ℕ → ℕ → Type 0
CountsDebug ReadFault reads reads' writes writes' = (reads' ≡ reads + 1) × (writes' ≡ writes)
CountsDebug WriteFault reads reads' writes writes' = (reads' ≡ reads) × (writes' ≡ writes + 1)
CountsDebug _ reads reads' writes writes' = (reads' ≡ reads) × (writes' ≡ writes)

-- a source that no session was served from is as it was
abbrev pub IsUntouched : {S : Type 0} → Outcome → S → S → Type 0
IsUntouched Refused old new = new ≡ old
IsUntouched Memory old new = new ≡ old
IsUntouched _ old new = Unit {0}

-- a refused text has no session
abbrev pub IsNoSession : Outcome → Type 0
IsNoSession Refused = Unit {0}
IsNoSession WriteFault = Unit {0}
IsNoSession Memory = Unit {0}
IsNoSession _ = ⊥
