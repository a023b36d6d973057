-- A step either faults, and then changes the status alone, or its state has no fault.
use Rattle.std.proofs.Common.{◌≡◌, refl, inl, inr, subst, sym, ℕ, Bool, true, false, List, [], ◌∷◌, if◌then◌else◌, Option, Some, None, Ok, Err}
use Rattle.std.specs.Prelude.{◌++◌, slice_get}
use Rattle.qil_tree.specs.declared.tree.CallResult.{CallResult}
use Rattle.qil_tree.specs.declared.tree.Argument.{Argument}
use Rattle.qil_tree.specs.declared.tree.Inst.{Inst}
use Rattle.qil_tree.specs.declared.tree.InstKind.{InstKind}
use Rattle.qil_tree.specs.declared.tree.InstKind.TheVariants as insts
use Rattle.qil_tree.specs.declared.tree.Jump.{Jump}
use Rattle.qil_tree.specs.declared.tree.JumpKind.{JumpKind}
use Rattle.qil_tree.specs.declared.tree.JumpKind.TheVariants as jumps
use Rattle.qil_tree.specs.declared.tree.Block.{Block}
use Rattle.qil_tree.specs.declared.tree.Func.{Func}
use Rattle.qil_tree.specs.declared.tree.Program.{Program}
use Rattle.qil_memory.specs.qil_layout.declared.callee.Callee.{Callee}
use Rattle.qil_memory.specs.qil_layout.declared.callee.Callee.TheVariants.{Defined, PutChar, Puts, Exit}
use Rattle.qil_memory.specs.qil_layout.Callee.{callee_at}
use Rattle.qil_semantics.specs.State.{Frame, Fault, running, State}
use Rattle.qil_semantics.specs.Laws.{IsWhole, Settles}
use Rattle.qil_semantics.specs.Values.{Outcome, ◌>>=◌, first, rest}
use Rattle.qil_semantics.specs.Calls.{shape_of, in_shape, enters, call_defined, writes, text_at, shape_of_puts, shape_of_putchar, putchar, puts, call_at}
use Rattle.qil_semantics.specs.Step.{act, enters_block, returns, leave, does, in_block, in_func, settled, step_in, step_of, func_named, block_labelled}

abbrev IsSafe : Outcome State → Type 0
IsSafe (Ok t) = IsWhole t.status
IsSafe (Err fault) = Unit {0}

record Safe (o : Outcome State) : Type 0 where
  is_safe : IsSafe o

fine : (t : State) → IsWhole t.status → Safe (Ok t)
fine t u = record { is_safe = u }

faults : (fault : Fault) → Safe (Err fault)
faults fault = record { is_safe = tt }

bound : {X : Type 0} (o : Outcome X) (k : X → Outcome State) → ((x : X) → Safe (k x)) → Safe (o >>= k)
bound (Ok x) k h = h x
bound (Err fault) k h = faults fault

either : (b : Bool) (x y : Outcome State) → Safe x → Safe y → Safe (if b then x else y)
either true x y h k = h
either false x y h k = k

safe_writes : (s : State) (f : Frame) (fs : List Frame) (to : Option CallResult) (bytes : List ℕ) (v : ℕ) → IsWhole s.status → Safe (writes s f fs to bytes v)
safe_writes s f fs to bytes v u = either _ _ _ (faults _) (fine _ u)

safe_enters : {A : Type 0} (s : State) (f : Frame) (fs : List Frame) (to : Option CallResult) (func : Func A) (ws : List ℕ) → IsWhole s.status → Safe (enters s f fs to func ws)
safe_enters s f fs to func ws u = either _ _ _ (fine _ u) (faults _)

safe_puts : (s : State) (f : Frame) (fs : List Frame) (to : Option CallResult) (a : ℕ) → IsWhole s.status → Safe (puts s f fs to a)
safe_puts s f fs to a u = bound (text_at s.memory a) (λ bytes. writes s f fs to (bytes ++ (10 ∷ [])) 0) (λ bytes. safe_writes s f fs to (bytes ++ (10 ∷ [])) 0 u)

safe_defined : {A : Type 0} (s : State) (f : Frame) (fs : List Frame) (to : Option CallResult) (args : List Argument) (vs : List ℕ) (o : Option (Func A)) → IsWhole s.status → Safe (call_defined s f fs to args vs o)
safe_defined s f fs to args vs (Some func) u = bound (in_shape (shape_of func) to args vs) (λ ws. enters s f fs to func ws) (λ ws. safe_enters s f fs to func ws u)
safe_defined s f fs to args vs None u = fine s u

safe_call : {A : Type 0} (p : Program A) (s : State) (f : Frame) (fs : List Frame) (to : Option CallResult) (args : List Argument) (a : ℕ) (vs : List ℕ) (o : Option Callee) → IsWhole s.status → Safe (call_at p s f fs to args a vs o)
safe_call p s f fs to args a vs None u = faults _
safe_call p s f fs to args a vs (Some (Defined id)) u = safe_defined s f fs to args vs (slice_get p.funcs id.index) u
safe_call p s f fs to args a vs (Some PutChar) u = bound (in_shape shape_of_putchar to args vs) (λ ws. putchar s f fs to (first ws)) (λ ws. safe_writes s f fs to _ _ u)
safe_call p s f fs to args a vs (Some Puts) u = bound (in_shape shape_of_puts to args vs) (λ ws. puts s f fs to (first ws)) (λ ws. safe_puts s f fs to (first ws) u)
safe_call p s f fs to args a vs (Some Exit) u = bound _ _ (λ ws. fine _ tt)

safe_act : {A : Type 0} (p : Program A) (s : State) (f : Frame) (fs : List Frame) (kind : InstKind A) (vs : List ℕ) → IsWhole s.status → Safe (act p s f fs kind vs)
safe_act p s f fs (insts.Assign to e) vs u = bound _ _ (λ v. fine _ u)
safe_act p s f fs (insts.Alloc to op n) vs u = either _ _ _ (faults _) (fine _ u)
safe_act p s f fs (insts.Store w a b) vs u = bound _ _ (λ m. fine _ u)
safe_act p s f fs (insts.Blit a b n) vs u = bound _ _ (λ m. fine _ u)
safe_act p s f fs (insts.Call to callee args) vs u = safe_call p s f fs to args (first vs) (rest vs) (callee_at p (first vs)) u

safe_block : {A : Type 0} (p : Program A) (s : State) (f : Frame) (fs : List Frame) (o : Option (Block A)) → IsWhole s.status → Safe (enters_block p s f fs o)
safe_block p s f fs (Some b) u = bound _ _ (λ g. fine _ u)
safe_block p s f fs None u = fine s u

safe_returns : (s : State) (f : Frame) (fs : List Frame) (value : Option ℕ) → Safe (returns s f fs value)
safe_returns s f [] value = fine _ tt
safe_returns s f (g ∷ fs) value = fine _ tt

safe_leave : {A : Type 0} (p : Program A) (s : State) (f : Frame) (fs : List Frame) (func : Func A) (kind : JumpKind) → IsWhole s.status → Safe (leave p s f fs func kind)
safe_leave p s f fs func (jumps.Jmp l) u = safe_block p s f fs (block_labelled func.blocks l) u
safe_leave p s f fs func (jumps.Jnz a l m) u = bound _ _ (λ v. safe_block p s f fs (block_labelled func.blocks _) u)
safe_leave p s f fs func (jumps.Ret None) u = safe_returns s f fs None
safe_leave p s f fs func (jumps.Ret (Some a)) u = bound _ _ (λ v. safe_returns s f fs _)
safe_leave p s f fs func jumps.Hlt u = faults _

safe_does : {A : Type 0} (p : Program A) (s : State) (f : Frame) (fs : List Frame) (func : Func A) (o : Option (Inst A)) (jump : Jump) → IsWhole s.status → Safe (does p s f fs func o jump)
safe_does p s f fs func (Some inst) jump u = bound _ _ (λ vs. safe_act p s f fs inst.kind vs u)
safe_does p s f fs func None jump u = safe_leave p s f fs func jump.kind u

safe_in_block : {A : Type 0} (p : Program A) (s : State) (f : Frame) (fs : List Frame) (func : Func A) (o : Option (Block A)) → IsWhole s.status → Safe (in_block p s f fs func o)
safe_in_block p s f fs func (Some b) u = safe_does p s f fs func (slice_get b.insts f.index) b.jump u
safe_in_block p s f fs func None u = fine s u

safe_in_func : {A : Type 0} (p : Program A) (s : State) (f : Frame) (fs : List Frame) (o : Option (Func A)) → IsWhole s.status → Safe (in_func p s f fs o)
safe_in_func p s f fs (Some func) u = safe_in_block p s f fs func (block_labelled func.blocks f.label) u
safe_in_func p s f fs None u = fine s u

settles : (s : State) (o : Outcome State) → Safe o → Settles s (settled s o)
settles s (Ok t) h = inl h.is_safe
settles s (Err fault) h = inr (fault, refl)

steps : {A : Type 0} (p : Program A) (s : State) (fs : List Frame) → IsWhole s.status → Settles s (step_in p s fs)
steps p s [] u = inl u
steps p s (f ∷ fs) u = settles s (in_func p s f fs (func_named p.funcs f.func)) (safe_in_func p s f fs (func_named p.funcs f.func) u)

-- a step that faults changes the status and nothing else
pub fault_changes_status : {A : Type 0} (p : Program A) (s : State) → s.status ≡ running → Settles s (step_of p s)
unfolding step_of
fault_changes_status p s h = steps p s s.frames (subst IsWhole (sym h) tt)

-- where no frame is left, a step changes nothing
pub no_frame_stays : {A : Type 0} (p : Program A) (s : State) → s.frames ≡ [] → step_of p s ≡ s
unfolding step_of
no_frame_stays p s h = rw h refl
