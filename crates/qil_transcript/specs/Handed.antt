-- What the parts of `debug` hand to one another.
use Rattle.std.specs.Prelude.{◌≡◌, ℕ, Bool, true, false, List, Option, Some, None}
use Rattle.std.specs.Io.KnownBytes.{Appends}
use Rattle.qil_streams.specs.Device.{IsPrefixOf}
use Rattle.qil_semantics.specs.declared.start.StartFault.TheVariants as faults
use Rattle.qil_machine.specs.declared.error.StartError.{StartError}
use Rattle.qil_machine.specs.declared.error.StartError.TheVariants as start
use Rattle.qil_loading.specs.declared.load.LoadError.{LoadError}
use Rattle.qil_loading.specs.declared.load.LoadError.TheVariants as errors
use Rattle.qil_loading.specs.declared.refusal.Refusal.TheVariants as refusals
use Rattle.qil_loading.specs.Lines.{refused_line}
use Rattle.qil_transcript.specs.declared.debugging.Request.{Request}
use Rattle.qil_transcript.specs.declared.outcome.Outcome.{Outcome}
use Rattle.qil_transcript.specs.declared.outcome.Outcome.TheVariants as outcomes
use Rattle.qil_replies.specs.Transcript.{Setup}

-- where copies are kept, in so many bytes, no move wants memory; undo records want some
abbrev pub moves_want_memory : Option ℕ → Bool
moves_want_memory None = true
moves_want_memory (Some budget) = false

-- a text with a request
abbrev pub setup_of : List ℕ → Request → Setup
setup_of text r = record { text = text; entry = r.func.now; args = r.args.now; limit = r.limit; keeps = r.bound; moves_want_memory = moves_want_memory r.replay }

-- what a start that failed is to the load
abbrev pub of_start : StartError → LoadError
of_start start.NoEntry = errors.Refused (refusals.Start faults.NoEntry)
of_start start.ArgumentCount = errors.Refused (refusals.Start faults.ArgumentCount)
of_start start.OutOfMemory = errors.OutOfMemory

-- the line of a refusal was put, or the sink failed in it; as memory ran out nothing was put
abbrev pub IsRefused : Outcome → LoadError → Option (List ℕ) → Option (List ℕ) → Type 0
IsRefused outcomes.Refused (errors.Refused refusal) before after = Appends before after (refused_line refusal)
IsRefused outcomes.WriteFault (errors.Refused refusal) before after = (prefix : List ℕ) × IsPrefixOf prefix (refused_line refusal) × Appends before after prefix
IsRefused outcomes.Memory errors.OutOfMemory before after = after ≡ before
IsRefused _ _ before after = ⊥
