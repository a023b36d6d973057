-- What code keeps of a machine over some steps, next to what the state is about to do.
use Rattle.std.specs.Prelude.{◌≡◌, ℕ, suc, ◌<◌, ◌≤◌, Bool, true, false, not, List, length, Option, Some, None, slice_get, Ok, Err}
use Rattle.qil_tree.specs.declared.tree.Program.{Program}
use Rattle.qil_semantics.specs.State.{State, is_final}
use Rattle.qil_layout.specs.declared.callee.FuncId.{FuncId}
use Rattle.qil_semantics.specs.Values.{Outcome}
use Rattle.qil_semantics.specs.Targets.{after}
use Rattle.qil_code.specs.declared.numbered.NumberedInst.{NumberedInst}
use Rattle.qil_code.specs.declared.numbered.NumberedInst.TheVariants as insts
use Rattle.qil_code.specs.declared.numbered.NumberedJump.{NumberedJump}
use Rattle.qil_code.specs.declared.numbered.NumberedJump.TheVariants as jumps
use Rattle.qil_code.specs.Ranges.{ReturnedInRange}
use Rattle.qil_code.specs.Numbered.{func_at}
use Rattle.qil_state.specs.State.{func_name}
use Rattle.qil_compare.specs.declared.event.Kinds.{Kinds}
use Rattle.qil_compare.specs.declared.event.Told.{Told}
use Rattle.qil_compare.specs.declared.ahead.Ahead.{Ahead}
use Rattle.qil_compare.specs.declared.ahead.Ahead.TheVariants as aheads
use Rattle.qil_compare.specs.declared.ahead.Before.{Before}
use Rattle.qil_compare.specs.Events.{Range, Due, due_of, done_by}
use Rattle.qil_compare.specs.Next.{returns_of, AreTold}

abbrev pub writes_ahead : Ahead → Option Range
writes_ahead (aheads.Write a n) = Some (record { start = a; count = n })
writes_ahead (aheads.Return value) = None
writes_ahead aheads.Other = None

abbrev pub value_ahead : Ahead → Option ℕ
value_ahead (aheads.Write a n) = None
value_ahead (aheads.Return value) = Some value
value_ahead aheads.Other = None

-- what is read, if it is
abbrev pub ok_value : Outcome ℕ → Option ℕ
ok_value (Ok v) = Some v
ok_value (Err fault) = None

-- the slot of what a jump returns is there
abbrev pub JumpReads : {A : Type 0} → ℕ → NumberedJump A → Type 0
JumpReads n (jumps.Jmp e) = Unit {0}
JumpReads n (jumps.Jnz a e f) = Unit {0}
JumpReads n (jumps.Ret a) = ReturnedInRange n a
JumpReads n jumps.Hlt = Unit {0}

-- ---- steps without an event

-- an instruction has none, unless it ends the run: it calls nothing, and writes nothing if writes are asked for
abbrev pub is_plain : {A : Type 0} → Bool → NumberedInst A → Bool
is_plain writes (insts.Assign to class e) = true
is_plain writes (insts.Alloc to class op n) = true
is_plain writes (insts.Store w a b) = not writes
is_plain writes (insts.Blit a b n) = not writes
is_plain writes (insts.Call result callee args) = false

abbrev pub is_call : {A : Type 0} → NumberedInst A → Bool
is_call (insts.Call result callee args) = true
is_call inst = false

abbrev pub is_return : {A : Type 0} → NumberedJump A → Bool
is_return (jumps.Ret a) = true
is_return jump = false

abbrev pub IsPlainAt : {A : Type 0} → Bool → List (NumberedInst A) → ℕ → Type 0
IsPlainAt {A} writes list i = (inst : NumberedInst A) × (slice_get list i ≡ Some inst) × (is_plain writes inst ≡ true)

-- from one place to another
abbrev pub ArePlain : {A : Type 0} → Bool → List (NumberedInst A) → ℕ → ℕ → Type 0
ArePlain writes list from to = (i : ℕ) → from ≤ i → i < to → IsPlainAt writes list i

-- ---- what is due

-- as far as an event of these kinds comes of it
pub record IsAhead (kinds : Kinds) (due : Due) (ahead : Ahead) : Type 0 where
  pub writes : kinds.writes ≡ true → writes_ahead ahead ≡ due.writes
  pub value : kinds.calls ≡ true → value_ahead ahead ≡ due.value

-- the function of that number is the one in which it is due
pub record IsFuncOf {A : Type 0} (p : Program A) (due : Due) (func : FuncId) : Type 0 where
  pub name : due.func ≡ func_name (func_at p func.index)
  pub returns : due.returns ≡ returns_of p func

pub record IsDue {A : Type 0} (p : Program A) (kinds : Kinds) (o : Option Due) (func : FuncId) (ahead : Ahead) : Type 0 where
  pub due : Due
  pub due_is : o ≡ Some due
  pub in_func : IsFuncOf p due func
  pub is_ahead : IsAhead kinds due ahead

-- the run goes on up to the state j steps on
abbrev pub GoesOn : {A : Type 0} → Program A → State → ℕ → Type 0
GoesOn p s j = (i : ℕ) → i ≤ j → is_final (after p s i).status ≡ false

-- Before each of so many steps that is due which was seen, in the same call and with the same output; if they are many, nothing is
-- due that shows in no count. So only the last can have an event, as far as the run goes on.
pub record IsStretch {A : Type 0} (p : Program A) (kinds : Kinds) (s : State) (func : FuncId) (ahead : Ahead) (moves : ℕ) : Type 0 where
  pub some : 0 < moves
  pub many : 1 < moves → ahead ≡ aheads.Other
  pub due : (j : ℕ) → j < moves → GoesOn p s j → IsDue p kinds (due_of p (after p s j).frames) func ahead
  pub depth : (j : ℕ) → j < moves → GoesOn p s j → length (after p s j).frames ≡ length s.frames
  pub output : (j : ℕ) → j < moves → GoesOn p s j → (after p s j).output ≡ s.output

-- what is kept of a state
pub record IsKept {A : Type 0} (p : Program A) (kinds : Kinds) (s : State) (before : Before) : Type 0 where
  pub depth : before.depth ≡ length s.frames
  pub output : before.written ≡ length s.output
  pub ahead : IsStretch p kinds s before.func before.ahead before.moves

-- what came of a step from a state of which that was kept: in the state after it the events are told so
abbrev pub HasHappened : {A : Type 0} → Program A → Program A → Kinds → Before → State → Option Told → Type 0
HasHappened p other kinds before t told =
    (s : State) (due : Due) → before.depth ≡ length s.frames → before.written ≡ length s.output → IsFuncOf p due before.func → IsAhead kinds due before.ahead → AreTold p kinds t (done_by p other kinds due s t) told
