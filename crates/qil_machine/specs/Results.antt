-- What calls and returns leave, and why a step isn't made.
use Rattle.std.specs.Prelude.{◌≡◌, ℕ, ◌+◌, ◌<◌, ◌≤◌, ◌^◌, List, [], ◌∷◌, length, Option, Some, None, option_map, Result, Ok, Err, IsOk}
use Rattle.qil_memory.specs.Buffers.{stack_end}
use Rattle.qil_memory.specs.Undo.{with_top}
use Rattle.qil_memory.specs.declared.fault.BlitFault.{BlitFault}
use Rattle.qil_memory.specs.declared.fault.BlitFault.TheVariants as blits
use Rattle.qil_semantics.specs.State.{Name}
use Rattle.qil_semantics.specs.Values.{Outcome}
use Rattle.qil_semantics.specs.Calls.{taken}
use Rattle.qil_code.specs.declared.numbered.Slot.{Slot}
use Rattle.qil_code.specs.declared.numbered.Receiver.{Receiver}
use Rattle.qil_frames.specs.Frames.{SlotFrame, on_innermost}
use Rattle.qil_state.specs.declared.status.Status.{Status}
use Rattle.qil_state.specs.declared.status.Status.TheVariants.{Running, Done}
use Rattle.qil_state.specs.declared.status.Fault.{Fault}
use Rattle.qil_state.specs.declared.status.Fault.TheVariants as faults
use Rattle.qil_state.specs.Faults.{fault_of}
use Rattle.qil_state.specs.State.{Whole, whole}
use Rattle.qil_machine.specs.declared.error.StepError.{StepError}
use Rattle.qil_machine.specs.declared.error.StepError.TheVariants as errors
use Rattle.qil_machine.specs.Kinds.{with_received}

-- what the slot that takes a result gets of it
abbrev pub received_value : Option Receiver → Option ℕ → Option ℕ
received_value None v = None
received_value (Some to) v = option_map (taken to.abi_type) v

abbrev pub gives : Option Receiver → Option ℕ → List SlotFrame → List SlotFrame
gives to v fs = on_innermost (with_received to (received_value to v)) fs

abbrev pub status_after : List SlotFrame → Option ℕ → Status
status_after [] v = Done v
status_after (f ∷ fs) v = Running

-- the machine without its innermost frame, whose caller takes what was returned
abbrev pub without_innermost : {A : Type 0} → Option ℕ → Whole A → List SlotFrame → Whole A
without_innermost v w [] = w
without_innermost v w (f ∷ fs) = whole w.program (gives f.result v fs) (with_top w.memory f.floor) w.output (status_after fs v)

-- ---- why a step isn't made

abbrev pub blit_error : BlitFault → StepError
blit_error (blits.Source a) = errors.Fault (faults.DeadAddress a)
blit_error (blits.Target a) = errors.Fault (faults.DeadAddress a)
blit_error blits.Overlap = errors.Fault faults.OverlappingBlit
blit_error blits.OutOfMemory = errors.OutOfMemory

-- the fault is the one that comes of the step; out of memory comes only if none does
abbrev pub Explains : {X : Type 0} → List Name → Outcome X → StepError → Type 0
Explains ns o (errors.Fault f) = o ≡ Err (fault_of ns f)
Explains ns o errors.OutOfMemory = IsOk o

-- the stack is full where its top would pass the end
abbrev pub GrowExplains : StepError → ℕ → Type 0
GrowExplains (errors.Fault f) top = (f ≡ faults.StackFull) × (stack_end < top)
GrowExplains errors.OutOfMemory top = top ≤ stack_end

abbrev PhiFaults : Result (List SlotFrame) Slot → Fault → Type 0
PhiFaults r (faults.Unset s) = r ≡ Err s
PhiFaults r f = ⊥

-- a slot that is unset where a phi reads it
abbrev pub PhisExplain : Result (List SlotFrame) Slot → StepError → Type 0
PhisExplain r (errors.Fault f) = PhiFaults r f
PhisExplain r errors.OutOfMemory = IsOk r

-- the output is full where it would pass its limit
abbrev pub WriteExplains : StepError → ℕ → Type 0
WriteExplains (errors.Fault f) count = (f ≡ faults.OutputFull) × (2 ^ 20 < count)
WriteExplains errors.OutOfMemory count = count ≤ 2 ^ 20

-- a byte of the text is dead; or the output is full, and so on, with a byte more after the text
abbrev pub TextExplains : Outcome (List ℕ) → ℕ → StepError → Type 0
TextExplains (Ok bytes) count e = WriteExplains e (count + (length bytes + 1))
TextExplains (Err why) count (errors.Fault f) = (ns : List Name) → why ≡ fault_of ns f
TextExplains (Err why) count errors.OutOfMemory = ⊥
