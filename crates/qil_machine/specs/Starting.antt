-- Why a machine isn't started.
use Rattle.std.specs.Prelude.{◌≡◌, Result, Err, IsOk}
use Rattle.qil_semantics.specs.State.{State}
use Rattle.qil_semantics.specs.declared.start.StartFault.{StartFault}
use Rattle.qil_semantics.specs.declared.start.StartFault.TheVariants as faults
use Rattle.qil_machine.specs.declared.error.StartError.{StartError}
use Rattle.qil_machine.specs.declared.error.StartError.TheVariants as errors

-- the refusal is the one of the start; out of memory comes only if there is none
abbrev pub StartExplains : Result State StartFault → StartError → Type 0
StartExplains r errors.NoEntry = r ≡ Err faults.NoEntry
StartExplains r errors.ArgumentCount = r ≡ Err faults.ArgumentCount
StartExplains r errors.OutOfMemory = IsOk r
