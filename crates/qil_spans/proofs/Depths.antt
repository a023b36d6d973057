-- A step adds a frame at most, and ends one at most.
use Rattle.std.proofs.Common.{◌≡◌, refl, sym, ap, subst, ℕ, suc, ◌+◌, ◌≤◌, Bool, true, false, List, [], ◌∷◌, length, if◌then◌else◌, Option, Some, None, Ok, Err, arith}
use Rattle.std.specs.Prelude.{◌++◌, slice_get}
use Rattle.qil_tree.specs.declared.tree.CallResult.{CallResult}
use Rattle.qil_tree.specs.declared.tree.Argument.{Argument}
use Rattle.qil_tree.specs.declared.tree.Inst.{Inst}
use Rattle.qil_tree.specs.declared.tree.InstKind.{InstKind}
use Rattle.qil_tree.specs.declared.tree.InstKind.TheVariants as insts
use Rattle.qil_tree.specs.declared.tree.Jump.{Jump}
use Rattle.qil_tree.specs.declared.tree.JumpKind.{JumpKind}
use Rattle.qil_tree.specs.declared.tree.JumpKind.TheVariants as jumps
use Rattle.qil_tree.specs.declared.tree.Block.{Block}
use Rattle.qil_tree.specs.declared.tree.Func.{Func}
use Rattle.qil_tree.specs.declared.tree.Program.{Program}
use Rattle.qil_layout.specs.declared.callee.Callee.{Callee}
use Rattle.qil_layout.specs.declared.callee.Callee.TheVariants.{Defined, PutChar, Puts, Exit}
use Rattle.qil_layout.specs.Callee.{callee_at}
use Rattle.qil_semantics.specs.State.{Frame, Fault, State}
use Rattle.qil_semantics.specs.Values.{Outcome, ◌>>=◌, first, rest}
use Rattle.qil_semantics.specs.Calls.{shape_of, in_shape, enters, call_defined, writes, text_at, shape_of_puts, shape_of_putchar, putchar, puts, call_at}
use Rattle.qil_semantics.specs.Step.{act, enters_block, returns, leave, does, in_block, in_func, settled, step_in, step_of, func_named, block_labelled}

-- n frames and the innermost were there before: now n, one more, or two more
abbrev IsNear : ℕ → ℕ → Type 0
IsNear n now = (now ≤ n + 2) × (n ≤ now)

abbrev AreNear : ℕ → Outcome State → Type 0
AreNear n (Ok t) = IsNear n (length t.frames)
AreNear n (Err fault) = Unit {0}

record Near (n : ℕ) (o : Outcome State) : Type 0 where
  is_near : AreNear n o

fine : {n : ℕ} (t : State) → IsNear n (length t.frames) → Near n (Ok t)
fine t u = record { is_near = u }

faults : {n : ℕ} (fault : Fault) → Near n (Err fault)
faults fault = record { is_near = tt }

same : (n now : ℕ) → now ≡ suc n → IsNear n now
same n now e = (omega (arith, e), omega (arith, e))

bound : {n : ℕ} {X : Type 0} (o : Outcome X) (k : X → Outcome State) → ((x : X) → Near n (k x)) → Near n (o >>= k)
bound (Ok x) k h = h x
bound (Err fault) k h = faults fault

either : {n : ℕ} (b : Bool) (x y : Outcome State) → Near n x → Near n y → Near n (if b then x else y)
either true x y h k = h
either false x y h k = k

near_writes : (s : State) (f : Frame) (fs : List Frame) (to : Option CallResult) (bytes : List ℕ) (v : ℕ) → length s.frames ≡ suc (length fs) → Near (length fs) (writes s f fs to bytes v)
near_writes s f fs to bytes v u = either _ _ _ (faults _) (fine _ (same _ _ refl))

near_enters : {A : Type 0} (s : State) (f : Frame) (fs : List Frame) (to : Option CallResult) (func : Func A) (ws : List ℕ) → length s.frames ≡ suc (length fs) → Near (length fs) (enters s f fs to func ws)
near_enters s f fs to func ws u = either _ _ _ (fine _ (omega arith, omega arith)) (faults _)

near_puts : (s : State) (f : Frame) (fs : List Frame) (to : Option CallResult) (a : ℕ) → length s.frames ≡ suc (length fs) → Near (length fs) (puts s f fs to a)
near_puts s f fs to a u = bound (text_at s.memory a) (λ bytes. writes s f fs to (bytes ++ (10 ∷ [])) 0) (λ bytes. near_writes s f fs to (bytes ++ (10 ∷ [])) 0 u)

near_defined : {A : Type 0} (s : State) (f : Frame) (fs : List Frame) (to : Option CallResult) (args : List Argument) (vs : List ℕ) (o : Option (Func A)) → length s.frames ≡ suc (length fs) → Near (length fs) (call_defined s f fs to args vs o)
near_defined s f fs to args vs (Some func) u = bound (in_shape (shape_of func) to args vs) (λ ws. enters s f fs to func ws) (λ ws. near_enters s f fs to func ws u)
near_defined s f fs to args vs None u = fine s (same _ _ u)

near_call : {A : Type 0} (p : Program A) (s : State) (f : Frame) (fs : List Frame) (to : Option CallResult) (args : List Argument) (a : ℕ) (vs : List ℕ) (o : Option Callee) → length s.frames ≡ suc (length fs) → Near (length fs) (call_at p s f fs to args a vs o)
near_call p s f fs to args a vs None u = faults _
near_call p s f fs to args a vs (Some (Defined id)) u = near_defined s f fs to args vs (slice_get p.funcs id.index) u
near_call p s f fs to args a vs (Some PutChar) u = bound (in_shape shape_of_putchar to args vs) (λ ws. putchar s f fs to (first ws)) (λ ws. near_writes s f fs to _ _ u)
near_call p s f fs to args a vs (Some Puts) u = bound (in_shape shape_of_puts to args vs) (λ ws. puts s f fs to (first ws)) (λ ws. near_puts s f fs to (first ws) u)
near_call p s f fs to args a vs (Some Exit) u = bound _ _ (λ ws. fine _ (same _ _ u))

near_act : {A : Type 0} (p : Program A) (s : State) (f : Frame) (fs : List Frame) (kind : InstKind A) (vs : List ℕ) → length s.frames ≡ suc (length fs) → Near (length fs) (act p s f fs kind vs)
near_act p s f fs (insts.Assign to e) vs u = bound _ _ (λ v. fine _ (same _ _ refl))
near_act p s f fs (insts.Alloc to op n) vs u = either _ _ _ (faults _) (fine _ (same _ _ refl))
near_act p s f fs (insts.Store w a b) vs u = bound _ _ (λ m. fine _ (same _ _ refl))
near_act p s f fs (insts.Blit a b n) vs u = bound _ _ (λ m. fine _ (same _ _ refl))
near_act p s f fs (insts.Call to callee args) vs u = near_call p s f fs to args (first vs) (rest vs) (callee_at p (first vs)) u

near_block : {A : Type 0} (p : Program A) (s : State) (f : Frame) (fs : List Frame) (o : Option (Block A)) → length s.frames ≡ suc (length fs) → Near (length fs) (enters_block p s f fs o)
near_block p s f fs (Some b) u = bound _ _ (λ g. fine _ (same _ _ refl))
near_block p s f fs None u = fine s (same _ _ u)

near_returns : (s : State) (f : Frame) (fs : List Frame) (value : Option ℕ) → Near (length fs) (returns s f fs value)
near_returns s f [] value = fine _ (omega arith, omega arith)
near_returns s f (g ∷ fs) value = fine _ (omega arith, omega arith)

near_leave : {A : Type 0} (p : Program A) (s : State) (f : Frame) (fs : List Frame) (func : Func A) (kind : JumpKind) → length s.frames ≡ suc (length fs) → Near (length fs) (leave p s f fs func kind)
near_leave p s f fs func (jumps.Jmp l) u = near_block p s f fs (block_labelled func.blocks l) u
near_leave p s f fs func (jumps.Jnz a l m) u = bound _ _ (λ v. near_block p s f fs (block_labelled func.blocks _) u)
near_leave p s f fs func (jumps.Ret None) u = near_returns s f fs None
near_leave p s f fs func (jumps.Ret (Some a)) u = bound _ _ (λ v. near_returns s f fs _)
near_leave p s f fs func jumps.Hlt u = faults _

near_does : {A : Type 0} (p : Program A) (s : State) (f : Frame) (fs : List Frame) (func : Func A) (o : Option (Inst A)) (jump : Jump) → length s.frames ≡ suc (length fs) → Near (length fs) (does p s f fs func o jump)
near_does p s f fs func (Some inst) jump u = bound _ _ (λ vs. near_act p s f fs inst.kind vs u)
near_does p s f fs func None jump u = near_leave p s f fs func jump.kind u

near_in_block : {A : Type 0} (p : Program A) (s : State) (f : Frame) (fs : List Frame) (func : Func A) (o : Option (Block A)) → length s.frames ≡ suc (length fs) → Near (length fs) (in_block p s f fs func o)
near_in_block p s f fs func (Some b) u = near_does p s f fs func (slice_get b.insts f.index) b.jump u
near_in_block p s f fs func None u = fine s (same _ _ u)

near_in_func : {A : Type 0} (p : Program A) (s : State) (f : Frame) (fs : List Frame) (o : Option (Func A)) → length s.frames ≡ suc (length fs) → Near (length fs) (in_func p s f fs o)
near_in_func p s f fs (Some func) u = near_in_block p s f fs func (block_labelled func.blocks f.label) u
near_in_func p s f fs None u = fine s (same _ _ u)

settled_near : (s : State) (n : ℕ) (o : Outcome State) → length s.frames ≡ suc n → Near n o → IsNear n (length (settled s o).frames)
settled_near s n (Ok t) e h = h.is_near
settled_near s n (Err fault) e h = same n (length s.frames) e

stepped : {A : Type 0} (p : Program A) (s : State) (fs : List Frame) → s.frames ≡ fs → (length (step_in p s fs).frames ≤ length s.frames + 1) × (length s.frames ≤ length (step_in p s fs).frames + 1)
stepped p s [] e = (omega arith, omega arith)
stepped p s (f ∷ fs) e =
    let long : length s.frames ≡ suc (length fs) = ap length e in
    let near = settled_near s (length fs) (in_func p s f fs (func_named p.funcs f.func)) long (near_in_func p s f fs (func_named p.funcs f.func) long) in
    (omega (arith, long, near.0), omega (arith, long, near.1))

pub step_near : {A : Type 0} (p : Program A) (s : State) → (length (step_of p s).frames ≤ length s.frames + 1) × (length s.frames ≤ length (step_of p s).frames + 1)
unfolding step_of
step_near p s = stepped p s s.frames refl
