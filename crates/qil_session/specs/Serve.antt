-- What `serve` has written when it returns.
use Rattle.std.specs.Prelude.{◌≡◌, ℕ, ◌+◌, ◌<◌, ◌^◌, List, ◌∷◌, ◌++◌, length, take, false, Option, Some, Result, Ok, Err}
use Rattle.std.specs.Io.KnownBytes.{Consumes}
use Rattle.qil_streams.specs.Device.{IsPrefixOf}
use Rattle.qil_streams.specs.Script.{lines_of, whole_lines_of}
use Rattle.qil_commands.specs.Command.{command_of}
use Rattle.qil_replies.specs.SessionState.{SessionState}
use Rattle.qil_replies.specs.Answers.{answer, answer_text, IsValid, IsAnswered, IsAnsweredTo, quits}
use Rattle.qil_session.specs.declared.serving.IoFault.{IoFault}
use Rattle.qil_session.specs.declared.serving.IoFault.TheVariants.{Read, Write, TooLong}

-- a script has more than 2^24 bytes, and none of the lines that end among these quits
abbrev pub IsTooLong : List ℕ → Type 0
IsTooLong script = (2 ^ 24 < length script) × (quits (whole_lines_of (take (2 ^ 24) script)) ≡ false)

-- A writing failed in the answer to one of the lines: those before it were answered, a part of its own answer was written,
-- and the session is left as that answer leaves it.
pub record IsCutShort {A : Type 0} (s : SessionState A) (lines : List (List ℕ)) (text : List ℕ) (now : SessionState A) : Type 0 where
  pub before : List (List ℕ)
  pub line : List ℕ
  pub after : List (List ℕ)
  pub lines_are : lines ≡ before ++ line ∷ after
  pub goes : quits before ≡ false
  pub reported : List ℕ
  pub there : SessionState A
  pub answered : IsAnsweredTo s before reported there
  pub shortage : Option ℕ
  pub valid : IsValid there (command_of line) shortage
  pub prefix : List ℕ
  pub is_prefix : IsPrefixOf prefix (answer_text (answer there (command_of line) shortage))
  pub text_is : text ≡ reported ++ prefix
  pub now_is : now ≡ (answer there (command_of line) shortage).left

-- What was written of the answers to a script, and how the session was left, by what `serve` returns. `left` is what the
-- source has left.
abbrev pub IsServed : {A T : Type 0} → Result T IoFault → SessionState A → List ℕ → Option (List ℕ) → List ℕ → SessionState A → Type 0
-- all answers
IsServed (Ok x) s script left text now = IsAnsweredTo s (lines_of script) text now × ¬ IsTooLong script
-- a prefix of them
IsServed (Err Write) s script left text now = (all : List ℕ) × IsAnswered s (lines_of script) all × IsPrefixOf text all × IsCutShort s (lines_of script) text now
-- those to the whole lines that were read, none of which quits: after a `quit` no read is made
IsServed (Err Read) s script left text now =
    (read : List ℕ) × Consumes (Some script) left read × IsAnsweredTo s (whole_lines_of read) text now × (quits (whole_lines_of read) ≡ false)
-- those to the lines that end among the first 2^24 bytes
IsServed (Err TooLong) s script left text now = IsAnsweredTo s (whole_lines_of (take (2 ^ 24) script)) text now × IsTooLong script

-- Two scripts one after the other, by what `serve_in_turn` returns. The first wasn't answered to its end, and of the second nothing
-- was taken; or it was, and the second was served from where the first left the session.
pub data AreServed {A T : Type 0} (result : Result T IoFault) (s : SessionState A) (one two : List ℕ) (left left' : Option (List ℕ)) (text : List ℕ) (now : SessionState A) : Type 0 where
  one_alone : (fault : IoFault) → result ≡ Err fault → IsServed {T = T} (Err fault) s one left text now → left' ≡ Some two → AreServed result s one two left left' text now
  both : (there : SessionState A) (first second : List ℕ) → IsAnsweredTo s (lines_of one) first there → ¬ IsTooLong one → IsServed result there two left' second now → text ≡ first ++ second
      → AreServed result s one two left left' text now

-- which device's faults rose, and by how much
abbrev pub CountsServe : {T : Type 0} → Result T IoFault → ℕ → ℕ → ℕ → ℕ → Type 0
CountsServe (Err Read) reads reads' writes writes' = (reads' ≡ reads + 1) × (writes' ≡ writes)
CountsServe (Err Write) reads reads' writes writes' = (reads' ≡ reads) × (writes' ≡ writes + 1)
CountsServe _ reads reads' writes writes' = (reads' ≡ reads) × (writes' ≡ writes)

-- at most 2^24 + 1 bytes were taken of the source
abbrev pub TakesFew : List ℕ → Option (List ℕ) → Type 0
TakesFew script left = (taken : List ℕ) × Consumes (Some script) left taken × (length taken < 2 ^ 24 + 2)
