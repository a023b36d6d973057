-- Lines that a request makes of fragments: what they do, or why they aren't taken.
use Rattle.std.specs.Prelude.{◌≡◌, ◌⊎◌, ℕ, List, Bool, true, false, length}
use Rattle.qil_commands.specs.Command.{command_of}
use Rattle.qil_semantics.specs.declared.reason.Reason.TheVariants as reasons
use Rattle.qrev_debuggee.specs.qrev_recorder.declared.done.Done.{Done}
use Rattle.qrev_debuggee.specs.qrev_recorder.declared.done.Done.TheVariants as dones
use Rattle.qrev_debuggee.specs.declared.failure.Failure.{Failure}
use Rattle.qrev_debuggee.specs.declared.failure.Failure.TheVariants as failures
use Rattle.qrev_debuggee.specs.declared.failure.Cause.TheVariants as causes
use Rattle.qrev_debuggee.specs.Moves.{Recorded, Lined, LineFails}

-- it isn't refused, and there was memory for its move
abbrev pub is_taken : Done → Bool
is_taken (dones.Refused refusal) = false
is_taken (dones.Stopped reasons.Memory) = false
is_taken done = true

-- What an editor is told of one that isn't taken: the answer, which begins at an offset of the transcript, or that memory ran out.
abbrev pub IsToldOf : Done → ℕ → Failure → Type 0
IsToldOf (dones.Refused refusal) from why = why ≡ failures.Answered from
IsToldOf (dones.Stopped reasons.Memory) from why = why ≡ failures.Because causes.NoMemory
IsToldOf done from why = ⊥

-- it was answered, and did this
pub record Takes {A : Type 0} (old new : Recorded A) (line : List ℕ) (done : Done) : Type 0 where
  pub answered : Lined old new (command_of line) done
  pub taken : is_taken done ≡ true

-- it was answered, and did nothing
pub record Leaves {A : Type 0} (old new : Recorded A) (line : List ℕ) (why : Failure) : Type 0 where
  pub done : Done
  pub answered : Lined old new (command_of line) done
  pub told : IsToldOf done (length old.transcript) why

-- it isn't taken for this
abbrev pub IsNotTaken : {A : Type 0} → Recorded A → Recorded A → List ℕ → Failure → Type 0
IsNotTaken old new line why = LineFails old new line why ⊎ Leaves old new line why
