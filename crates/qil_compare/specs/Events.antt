-- The events of a run: what each step does that doesn't depend on how the program was compiled.
use Rattle.std.specs.Prelude.{ℕ, zero, suc, ◌+◌, Bool, false, not, ◌==◌, nat_lt, if◌then◌else◌, List, [], ◌∷◌, ◌++◌, length, map, drop, Option, Some, None, is_some, option_map, unwrap_or, slice_get, Ok, Err}
use Rattle.qil_tree.specs.declared.ops.Class.TheVariants as classes
use Rattle.qil_tree.specs.declared.ops.AbiType.{AbiType}
use Rattle.qil_tree.specs.declared.ops.AbiType.TheVariants as types
use Rattle.qil_tree.specs.declared.tree.Param.{Param}
use Rattle.qil_tree.specs.declared.tree.Inst.{Inst}
use Rattle.qil_tree.specs.declared.tree.InstKind.{InstKind}
use Rattle.qil_tree.specs.declared.tree.InstKind.TheVariants as insts
use Rattle.qil_tree.specs.declared.tree.JumpKind.{JumpKind}
use Rattle.qil_tree.specs.declared.tree.JumpKind.TheVariants as jumps
use Rattle.qil_tree.specs.declared.tree.Block.{Block}
use Rattle.qil_tree.specs.declared.tree.Func.{Func}
use Rattle.qil_tree.specs.declared.tree.Program.{Program}
use Rattle.qil_rules.specs.Occurrences.{returned_class}
use Rattle.qil_layout.specs.Layout.{width_bytes, data_base, address_of}
use Rattle.qil_memory.specs.Live.{Live}
use Rattle.qil_semantics.specs.State.{Name, Temps, Frame, Fault, dead_address, no_function, unset_temporary, Status, running, done, exited, faulted, State, is_final}
use Rattle.qil_semantics.specs.Values.{Outcome, fit, val}
use Rattle.qil_semantics.specs.Step.{func_named, block_labelled, step_of}
use Rattle.qil_semantics.specs.Targets.{after}
use Rattle.qil_compare.specs.declared.event.Kinds.{Kinds}
use Rattle.qil_compare.specs.Seen.{Offset, Value, address_seen, data_place, seen}

-- ---- events

-- what a fault tells that each compilation has; not the name of a temporary
pub data Cause : Type 0 where
  plain : Fault → Cause
  unset : Cause
  dead : Value → Cause
  nowhere : Value → Cause

pub data End : Type 0 where
  done_with : Option Value → End
  exited_with : ℕ → End
  faulted_by : Cause → End

-- a byte of output; bytes that were written to a data object; a call, with the values of the parameters; a return; the end
pub data Event : Type 0 where
  byte_out : ℕ → Event
  written : Offset → List (Option ℕ) → Event
  called : Name → List Value → Event
  returned : Name → Option Value → Event
  ended : Option End → Event

-- ---- what both programs define

abbrev pub has_func : {A : Type 0} → Program A → Name → Bool
has_func p x = is_some (func_named p.funcs x)

abbrev pub is_of_data : Option ℕ → Bool
is_of_data None = false
is_of_data (Some a) = not (nat_lt a data_base)

abbrev pub has_data : {A : Type 0} → Program A → Name → Bool
has_data p x = is_of_data (address_of p x)

-- ---- what a state is about to do

-- a number of bytes from an address on
pub record Range : Type 0 where
  pub start : ℕ
  pub count : ℕ

abbrev pub range_from : ℕ → Outcome ℕ → Option Range
range_from n (Ok a) = Some (record { start = a; count = n })
range_from n (Err fault) = None

-- where an instruction writes to memory
abbrev pub writes_at : {A : Type 0} → Program A → Temps → InstKind A → Option Range
writes_at p temps (insts.Store w a b) = range_from (width_bytes w) (val p temps classes.L b)
writes_at p temps (insts.Blit a b n) = if n == 0 then None else range_from n (val p temps classes.L b)
writes_at p temps inst = None

abbrev pub inst_writes : {A : Type 0} → Program A → Temps → Option (Inst A) → Option Range
inst_writes p temps None = None
inst_writes p temps (Some inst) = writes_at p temps inst.kind

-- the value that a jump returns, as the function's type has it
abbrev pub fitted : AbiType → Outcome ℕ → Option ℕ
fitted t (Ok v) = Some (fit t v)
fitted t (Err fault) = None

abbrev pub type_of : Option AbiType → AbiType
type_of returns = unwrap_or returns types.W

abbrev pub jump_returns : {A : Type 0} → Program A → Temps → Option AbiType → JumpKind → Option ℕ
jump_returns p temps returns (jumps.Ret (Some a)) = fitted (type_of returns) (val p temps (returned_class returns) a)
jump_returns p temps returns jump = None

-- the jump is what comes after the last instruction
abbrev pub place_returns : {A : Type 0} → Program A → Temps → Option AbiType → Option (Inst A) → JumpKind → Option ℕ
place_returns p temps returns (Some inst) jump = None
place_returns p temps returns None jump = jump_returns p temps returns jump

-- a function, the type of what it returns, and what is about to be written or returned there
pub record Due : Type 0 where
  pub func : Name
  pub returns : AbiType
  pub writes : Option Range
  pub value : Option ℕ

abbrev pub due_in : {A : Type 0} → Program A → Frame → Func A → Block A → Due
due_in p f func b = record {
  func = func.name;
  returns = type_of func.returns;
  writes = inst_writes p f.temps (slice_get b.insts f.index);
  value = place_returns p f.temps func.returns (slice_get b.insts f.index) b.jump.kind;
}

abbrev pub due_at : {A : Type 0} → Program A → Frame → Func A → Option (Block A) → Option Due
due_at p f func None = None
due_at p f func (Some b) = Some (due_in p f func b)

abbrev pub due_by : {A : Type 0} → Program A → Frame → Option (Func A) → Option Due
due_by p f None = None
due_by p f (Some func) = due_at p f func (block_labelled func.blocks f.label)

-- in the innermost frame
abbrev pub due_of : {A : Type 0} → Program A → List Frame → Option Due
due_of p [] = None
due_of p (f ∷ fs) = due_by p f (func_named p.funcs f.func)

-- ---- the events of a step, of the kinds that are asked for

abbrev pub one_if : Bool → Event → List Event
one_if b e = if b then e ∷ [] else []

-- output
abbrev pub bytes_out : Kinds → List ℕ → List Event
bytes_out kinds bytes = if kinds.output then map byte_out bytes else []

-- writes: of objects that the other program defines too
unfoldable pub bytes_from : Live → ℕ → ℕ → List (Option ℕ)
bytes_from m a zero = []
bytes_from m a (suc n) = m a ∷ bytes_from m (a + 1) n

abbrev pub write_in : {A : Type 0} → Program A → State → Range → Option Offset → List Event
write_in other s r None = []
write_in other s r (Some place) = one_if (has_data other place.object) (written place (bytes_from s.memory r.start r.count))

abbrev pub write_of : {A : Type 0} → Program A → Program A → State → Option Range → List Event
write_of p other s None = []
write_of p other s (Some r) = write_in other s r (data_place p r.start)

abbrev pub write_by : {A : Type 0} → Program A → Program A → Kinds → State → Option Range → List Event
write_by p other kinds s writes = if kinds.writes then write_of p other s writes else []

-- calls, and returns: of functions that the other program defines too
abbrev pub param_seen : {A : Type 0} → Program A → Temps → Param → Value
param_seen p temps q = seen p q.abi_type (unwrap_or (temps q.name) 0)

abbrev pub params_seen : {A : Type 0} → Program A → Temps → Option (Func A) → List Value
params_seen p temps None = []
params_seen p temps (Some func) = map (param_seen p temps) func.params

-- the name and the values of the parameters of the innermost frame
abbrev pub call_name : List Frame → Name
call_name [] = []
call_name (f ∷ fs) = f.func

abbrev pub call_params : {A : Type 0} → Program A → List Frame → List Value
call_params p [] = []
call_params p (f ∷ fs) = params_seen p f.temps (func_named p.funcs f.func)

abbrev pub call_by : {A : Type 0} → Program A → Program A → Kinds → List Frame → List Event
call_by p other kinds fs = if kinds.calls then one_if (has_func other (call_name fs)) (called (call_name fs) (call_params p fs)) else []

abbrev pub return_by : {A : Type 0} → Program A → Program A → Kinds → Due → List Event
return_by p other kinds due =
    if kinds.calls then one_if (has_func other due.func) (returned due.func (option_map (seen p due.returns) due.value)) else []

-- the end
abbrev pub cause_of : {A : Type 0} → Program A → Fault → Cause
cause_of p (dead_address a) = dead (address_seen p a)
cause_of p (no_function a) = nowhere (address_seen p a)
cause_of p (unset_temporary x) = unset
cause_of p fault = plain fault

abbrev pub end_of : {A : Type 0} → Program A → AbiType → Status → Option End
end_of p t running = None
end_of p t (done value) = Some (done_with (option_map (seen p t) value))
end_of p t (exited word) = Some (exited_with word)
end_of p t (faulted fault) = Some (faulted_by (cause_of p fault))

-- What a step does from one state to the next. It ends the run; or else calls, or returns, or writes output, or writes to
-- memory: that is told by the number of calls, and by how much output there is.
abbrev pub done_by : {A : Type 0} → Program A → Program A → Kinds → Due → State → State → List Event
done_by p other kinds due s t =
    if is_final t.status then one_if kinds.end (ended (end_of p due.returns t.status)) else
    (if nat_lt (length s.frames) (length t.frames) then call_by p other kinds t.frames else
    (if nat_lt (length t.frames) (length s.frames) then return_by p other kinds due else
    (if nat_lt (length s.output) (length t.output) then bytes_out kinds (drop (length s.output) t.output) else
    write_by p other kinds t due.writes)))

abbrev pub done_due : {A : Type 0} → Program A → Program A → Kinds → Option Due → State → State → List Event
done_due p other kinds None s t = []
done_due p other kinds (Some due) s t = done_by p other kinds due s t

-- the events of the next step of a state; of a final state there are none
unfoldable pub events_of : {A : Type 0} → Program A → Program A → Kinds → State → List Event
events_of p other kinds s = if is_final s.status then [] else done_due p other kinds (due_of p s.frames) s (step_of p s)

-- the events of the first k steps
unfoldable pub events_by : {A : Type 0} → Program A → Program A → Kinds → State → ℕ → List Event
events_by p other kinds s zero = []
events_by p other kinds s (suc k) = events_by p other kinds s k ++ events_of p other kinds (after p s k)
