-- A state of a run, by names: the calls that are not over, memory, what was written, and the status.
use Rattle.std.specs.Prelude.{ℕ, Bool, true, false, List, Option}
use Rattle.qil_tree.specs.declared.tree.CallResult.{CallResult}
use Rattle.qil_ops.specs.declared.division.DivFault.{DivFault}
use Rattle.qil_memory.specs.Live.{Live}

-- the bytes of a name, without its sigil
abbrev pub Name : Type 0
Name = List ℕ

-- the values of the temporaries that are set
abbrev pub Temps : Type 0
Temps = Name → Option ℕ

-- A call that is not over: a function, a block of it, and the number of instructions of the block that are done. Where
-- they all are, the jump is next. The floor is the top of the stack from before the call. The result is the temporary of
-- the caller that takes what is returned, if one does, with the type that is at the call.
pub record Frame : Type 0 where
  pub func : Name
  pub label : Name
  pub index : ℕ
  pub temps : Temps
  pub floor : ℕ
  pub result : Option CallResult

-- why a step could not be taken as written
pub data Fault : Type 0 where
  division : DivFault → Fault
  dead_address : ℕ → Fault
  unset_temporary : Name → Fault
  overlapping_blit : Fault
  stack_full : Fault
  calls_too_deep : Fault
  no_function : ℕ → Fault
  call_shape : Fault
  output_full : Fault
  halted : Fault

-- A run goes on, or it is over: with the value that was returned, if there was one; with the word that it ended itself
-- with; or by a fault.
pub data Status : Type 0 where
  running : Status
  done : Option ℕ → Status
  exited : ℕ → Status
  faulted : Fault → Status

-- the frames, the innermost first; the byte at each live address; the stack's top; the bytes that were written
pub record State : Type 0 where
  pub frames : List Frame
  pub memory : Live
  pub top : ℕ
  pub output : List ℕ
  pub status : Status

abbrev pub is_final : Status → Bool
is_final running = false
is_final (done value) = true
is_final (exited word) = true
is_final (faulted fault) = true
