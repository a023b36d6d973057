-- The accesses of a move: which bytes of memory it reads, and which it writes.
use Rattle.std.specs.Prelude.{ℕ, zero, suc, ◌+◌, ◌-◌, Bool, true, false, nat_lt, if◌then◌else◌, max, min, List, [], ◌∷◌, ◌++◌, length, Option, Some, None, slice_get}
use Rattle.std.specs.List.{filter}
use Rattle.std.specs.Option.{option_and_then}
use Rattle.std.specs.Result.{result_ok}
use Rattle.qil_tree.specs.declared.ops.Class.TheVariants as classes
use Rattle.qil_tree.specs.declared.ops.LoadOp.{LoadOp}
use Rattle.qil_tree.specs.declared.ops.LoadOp.TheVariants as loads
use Rattle.qil_tree.specs.declared.tree.Operand.{Operand}
use Rattle.qil_tree.specs.declared.tree.Expr.{Expr}
use Rattle.qil_tree.specs.declared.tree.Expr.TheVariants as exprs
use Rattle.qil_tree.specs.declared.tree.Argument.{Argument}
use Rattle.qil_tree.specs.declared.tree.Inst.{Inst}
use Rattle.qil_tree.specs.declared.tree.InstKind.{InstKind}
use Rattle.qil_tree.specs.declared.tree.InstKind.TheVariants as insts
use Rattle.qil_tree.specs.declared.tree.Block.{Block}
use Rattle.qil_tree.specs.declared.tree.Func.{Func}
use Rattle.qil_tree.specs.declared.tree.Program.{Program}
use Rattle.qil_layout.specs.Layout.{width_bytes}
use Rattle.qil_layout.specs.declared.callee.Callee.{Callee}
use Rattle.qil_layout.specs.declared.callee.Callee.TheVariants.{Puts}
use Rattle.qil_layout.specs.Callee.{callee_at}
use Rattle.qil_semantics.specs.State.{Name, Temps, Frame, Status, running, done, exited, faulted, State}
use Rattle.qil_semantics.specs.Values.{val}
use Rattle.qil_semantics.specs.Step.{func_named, block_labelled, step_of}
use Rattle.qil_semantics.specs.Timeline.{Timeline, position, moved}
use Rattle.qil_history.specs.qil_machine.Readings.{temp_here}
use Rattle.qil_accesses.specs.declared.access.Action.{Action}
use Rattle.qil_accesses.specs.declared.access.Action.TheVariants.{Read, Write}
use Rattle.qil_accesses.specs.declared.access.Access.{Access}

-- ---- the accesses of a step that is made at a position

abbrev pub access : Action → ℕ → ℕ → ℕ → Access
access what at a n = record { action = what; position = at; address = a; count = n }

-- n bytes, if there is an address
abbrev pub touched : Action → ℕ → ℕ → Option ℕ → List Access
touched what at n None = []
touched what at n (Some a) = access what at a n ∷ []

-- from one address to another: the read comes first
abbrev pub copied : ℕ → ℕ → Option ℕ → Option ℕ → List Access
copied at n (Some a) (Some b) = access Read at a n ∷ (access Write at b n ∷ [])
copied at n a b = []

-- new bytes of the stack, which are zero
abbrev pub given : ℕ → Option ℕ → Option ℕ → List Access
given at None a = []
given at (Some n) a = touched Write at n a

-- how many bytes a load reads
abbrev pub load_bytes : LoadOp → ℕ
load_bytes loads.L = 8
load_bytes loads.Sw = 4
load_bytes loads.Uw = 4
load_bytes loads.Sh = 2
load_bytes loads.Uh = 2
load_bytes loads.Sb = 1
load_bytes loads.Ub = 1

-- an operand as 64 bits, if it is set
abbrev pub value_of : {A : Type 0} → Program A → Temps → Operand → Option ℕ
value_of p temps a = result_ok (val p temps classes.L a)

abbrev pub expr_accesses : {A : Type 0} → Program A → Temps → ℕ → Expr → List Access
expr_accesses p temps at (exprs.Load op a) = touched Read at (load_bytes op) (value_of p temps a)
expr_accesses p temps at e = []

-- `$puts` reads a text and the zero byte after it: as many bytes as it writes to the output, where a newline is last
abbrev pub call_accesses : {A : Type 0} → Program A → Temps → ℕ → ℕ → Option Callee → List Argument → List Access
call_accesses p temps at n (Some Puts) (a ∷ args) = touched Read at n (value_of p temps a.value)
call_accesses p temps at n callee args = []

-- of an instruction in a state s, after which the state is t
abbrev pub inst_accesses : {A : Type 0} → Program A → Temps → ℕ → State → State → InstKind A → List Access
inst_accesses p temps at s t (insts.Assign to e) = expr_accesses p temps at e
inst_accesses p temps at s t (insts.Alloc to op n) = given at (value_of p temps n) (temp_here t.frames to.name)
inst_accesses p temps at s t (insts.Store w a b) = touched Write at (width_bytes w) (value_of p temps b)
inst_accesses p temps at s t (insts.Blit a b n) = copied at n (value_of p temps a) (value_of p temps b)
inst_accesses p temps at s t (insts.Call to callee args) =
    call_accesses p temps at (length t.output - length s.output) (option_and_then (callee_at p) (value_of p temps callee)) args

-- a jump makes none
abbrev pub place_accesses : {A : Type 0} → Program A → Temps → ℕ → State → State → Option (Inst A) → List Access
place_accesses p temps at s t None = []
place_accesses p temps at s t (Some inst) = inst_accesses p temps at s t inst.kind

abbrev pub block_accesses : {A : Type 0} → Program A → Frame → ℕ → State → State → Option (Block A) → List Access
block_accesses p f at s t None = []
block_accesses p f at s t (Some b) = place_accesses p f.temps at s t (slice_get b.insts f.index)

abbrev pub func_accesses : {A : Type 0} → Program A → Frame → ℕ → State → State → Option (Func A) → List Access
func_accesses p f at s t None = []
func_accesses p f at s t (Some func) = block_accesses p f at s t (block_labelled func.blocks f.label)

-- in the innermost frame
abbrev pub frame_accesses : {A : Type 0} → Program A → ℕ → State → State → List Frame → List Access
frame_accesses p at s t [] = []
frame_accesses p at s t (f ∷ fs) = func_accesses p f at s t (func_named p.funcs f.func)

abbrev pub is_faulted : Status → Bool
is_faulted running = false
is_faulted (done value) = false
is_faulted (exited word) = false
is_faulted (faulted fault) = true

-- from a state s to the next one, t; a step that faults makes none
unfoldable pub accesses_to : {A : Type 0} → Program A → ℕ → State → State → List Access
accesses_to p at s t = if is_faulted t.status then [] else frame_accesses p at s t s.frames

-- ---- the accesses of moves

-- some byte of an access is one of the m bytes from a on
abbrev pub touches : ℕ → ℕ → Access → Bool
touches a m one = nat_lt (max a one.address) (min (a + m) (one.address + one.count))

-- those of the step that comes next
abbrev pub accesses_next : {A : Type 0} → Program A → ℕ → ℕ → Timeline → List Access
accesses_next p a m t = filter (touches a m) (accesses_to p (position t) t.now (step_of p t.now))

-- those of the first k moves forward
unfoldable pub accesses_by : {A : Type 0} → Program A → ℕ → ℕ → Timeline → ℕ → List Access
accesses_by p a m t zero = []
accesses_by p a m t (suc k) = accesses_by p a m t k ++ accesses_next p a m (moved p k t)

-- A list has no more than 4,096. It is full where the two of one more copy might not fit.
abbrev pub is_filled : List Access → Bool
is_filled list = nat_lt 4094 (length list)
