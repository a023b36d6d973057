-- Faults and statuses by number, read through names.
use Rattle.std.specs.Prelude.{List, Result, Ok, Err}
use Rattle.qil_semantics.specs.State as meaning
use Rattle.qil_semantics.specs.State.{Name}
use Rattle.qil_semantics.specs.Values.{Outcome}
use Rattle.qil_code.specs.Slots.{name_at}
use Rattle.qil_state.specs.declared.status.Fault.{Fault}
use Rattle.qil_state.specs.declared.status.Fault.TheVariants as faults
use Rattle.qil_state.specs.declared.status.Status.{Status}
use Rattle.qil_state.specs.declared.status.Status.TheVariants as statuses

abbrev pub fault_of : List Name → Fault → meaning.Fault
fault_of ns (faults.Division why) = meaning.division why
fault_of ns (faults.DeadAddress a) = meaning.dead_address a
fault_of ns (faults.Unset s) = meaning.unset_temporary (name_at ns s.index)
fault_of ns faults.OverlappingBlit = meaning.overlapping_blit
fault_of ns faults.StackFull = meaning.stack_full
fault_of ns faults.CallsTooDeep = meaning.calls_too_deep
fault_of ns (faults.NoFunction a) = meaning.no_function a
fault_of ns faults.CallShape = meaning.call_shape
fault_of ns faults.OutputFull = meaning.output_full
fault_of ns faults.Halted = meaning.halted

abbrev pub status_of : List Name → Status → meaning.Status
status_of ns statuses.Running = meaning.running
status_of ns (statuses.Done v) = meaning.done v
status_of ns (statuses.Exited w) = meaning.exited w
status_of ns (statuses.Faulted f) = meaning.faulted (fault_of ns f)

-- what comes of something by number, read through names
abbrev pub reported : {X : Type 0} → List Name → Result X Fault → Outcome X
reported ns (Ok x) = Ok x
reported ns (Err f) = Err (fault_of ns f)
