-- A state of a run beside the shadow that is kept by number, and a step of both.
use Rattle.std.specs.Prelude.{◌≡◌, ℕ, ◌≤◌, true, List, [], ◌∷◌, ◌++◌, length, map, ⊤, Option, Some, None, option_map, slice_get}
use Rattle.std.specs.List.{AllByRecursion}
use Rattle.qil_tree.specs.declared.tree.CallResult.{CallResult}
use Rattle.qil_tree.specs.declared.tree.Operand.{Operand}
use Rattle.qil_tree.specs.declared.tree.Operand.TheVariants as operands
use Rattle.qil_tree.specs.declared.tree.Inst.{Inst}
use Rattle.qil_tree.specs.declared.tree.Phi.{Phi}
use Rattle.qil_tree.specs.declared.tree.Block.{Block}
use Rattle.qil_tree.specs.declared.tree.Func.{Func}
use Rattle.qil_tree.specs.declared.tree.Program.{Program}
use Rattle.qil_memory.specs.qil_rules.Operands.{inst_reads}
use Rattle.qil_memory.specs.qil_rules.Text.{IsAmong}
use Rattle.qil_memory.specs.qil_layout.Layout.{address_of}
use Rattle.qil_memory.specs.Buffers.{stack_base, stack_end}
use Rattle.qil_semantics.specs.State.{Name, Frame, State}
use Rattle.qil_semantics.specs.Step.{block_labelled, step_of}
use Rattle.qil_semantics.specs.Slots.{temps_of}
use Rattle.qil_code.specs.declared.numbered.Receiver.{Receiver}
use Rattle.qil_code.specs.Facts.{jump_labels}
use Rattle.qil_code.specs.Numbered.{func_at, block_at, inst_at, names_of, receiver_of}
use Rattle.qil_code.specs.Reading.{func_names}
use Rattle.qil_code.specs.Slots.{number_in}
use Rattle.qil_shadow.specs.declared.suspicion.Place.{Place}
use Rattle.qil_shadow.specs.declared.shadow.Shadow.{Shadow}
use Rattle.qil_shadow.specs.Shadow as by_names
use Rattle.qil_shadow.specs.Shadowed.{shadowed_in, shadowed}
use Rattle.qil_shadow.specs.Accesses.{are_live}
use Rattle.qil_shadow.specs.Suspicions.{suspicions_of}
use Rattle.qil_shadow.specs.Doubts.{suspicion_named}
use Rattle.qil_shadow.specs.Starting.{IsOf}
use Rattle.qil_shadow.specs.Instructions.{named}
use Rattle.qil_shadow.specs.Returns.{IsTaker}
use Rattle.qil_shadow.specs.Shapes.{CallShape, shapes_of}
use Rattle.qil_shadow.specs.Phis.{IsSingle}
use Rattle.qil_shadow.specs.Jumps.{jump_operands}

-- ---- what the rules of the language say of a program

abbrev pub HasAddress : {A : Type 0} → Program A → Operand → Type 0
HasAddress p (operands.Number n) = ⊤
HasAddress p (operands.Global g) = (a : ℕ) × (address_of p g ≡ Some a)
HasAddress p (operands.Temp x) = ⊤

abbrev pub PhiIsRuled : {A : Type 0} → Program A → Phi A → Type 0
PhiIsRuled p phi = AllByRecursion (λ q. HasAddress p q.value) phi.sources

-- each global that a program reads has an address, and each phi has one source for each block that leads to its own
pub record IsRuled {A : Type 0} (p : Program A) : Type 0 where
  pub insts : (i j k : ℕ) (inst : Inst A) → inst_at p i j k ≡ Some inst → AllByRecursion (λ r. HasAddress p r.operand) (inst_reads inst.kind)
  pub jumps : (i j : ℕ) (b : Block A) → block_at p i j ≡ Some b → AllByRecursion (HasAddress p) (jump_operands b.jump.kind)
  pub phis : (i j : ℕ) (b : Block A) → block_at p i j ≡ Some b → AllByRecursion (PhiIsRuled p) b.phis
  pub single : (i j : ℕ) (func : Func A) (left target : Block A) (l : Name) → func_at p i ≡ Some func → slice_get func.blocks j ≡ Some left → IsAmong l (jump_labels left.jump.kind) → block_labelled func.blocks l ≡ Some target
      → AllByRecursion (IsSingle left.label) target.phis

-- ---- calls beside frames

-- the number of the function of a frame
abbrev pub number_of : {A : Type 0} → Program A → Frame → ℕ
number_of p f = number_in (func_names p) f.func

abbrev pub numbers_of : {A : Type 0} → Program A → List Frame → List ℕ
numbers_of p fs = map (number_of p) fs

-- by number a call has the receiver of its frame, if that has a caller
abbrev pub IsReceiver : {A : Type 0} → Program A → List Frame → Option CallResult → Option Receiver → Type 0
IsReceiver p [] result receiver = ⊤
IsReceiver p (g ∷ gs) result receiver = (receiver ≡ option_map (receiver_of (names_of p (number_of p g))) result) × IsTaker (names_of p (number_of p g)) result

-- a call with the callers' frames, beside its own
pub record IsBeside {A : Type 0} (p : Program A) (callers : List Frame) (f : Frame) (c : CallShape) : Type 0 where
  pub slots : length (names_of p (number_of p f)) ≡ c.slots
  pub floor : c.floor ≡ f.floor
  pub receiver : IsReceiver p callers f.result c.receiver

abbrev pub AreBeside : {A : Type 0} → Program A → List Frame → List CallShape → Type 0
AreBeside p [] [] = ⊤
AreBeside p [] (c ∷ cs) = ⊥
AreBeside p (f ∷ fs) [] = ⊥
AreBeside p (f ∷ fs) (c ∷ cs) = IsBeside p fs f c × AreBeside p fs cs

-- the calls that are kept, the top of the stack and the program are those of a state; no function has a part in a heap
pub record StandsBeside {A : Type 0} (p : Program A) (s : State) (sh : Shadow A) : Type 0 where
  pub own : IsOf p sh.names sh.calls.objects.starts sh.data_end
  pub calls : AreBeside p s.frames (shapes_of sh.calls.calls)
  pub top : sh.calls.top ≡ s.top
  pub none : sh.heap.roles.items ≡ []

-- the shadow by names of a state
abbrev pub shadow_of : {A : Type 0} → Program A → State → Shadow A → by_names.Shadow
shadow_of p s sh = named p (numbers_of p s.frames) sh

-- ---- what a state is

-- the live bytes are among those of the data and of the stack, which has room
pub record HasRoom {A : Type 0} (p : Program A) (s : State) : Type 0 where
  pub live : (a b : ℕ) → s.memory a ≡ Some b → are_live p s a 1 ≡ true
  pub low : stack_base ≤ s.top
  pub high : s.top ≤ stack_end

-- a frame is at a place of the code, and what its temporaries hold is in these slots
pub record IsAtPlace {A : Type 0} (p : Program A) (place : Place) (slots : List (Option ℕ)) (f : Frame) : Type 0 where
  pub func : Func A
  pub block : Block A
  pub func_is : func_at p place.func.index ≡ Some func
  pub block_is : slice_get func.blocks place.block.index ≡ Some block
  pub name_is : f.func ≡ func.name
  pub label_is : f.label ≡ block.label
  pub index_is : f.index ≡ place.index
  pub temps_are : f.temps ≡ temps_of (names_of p place.func.index) slots

-- a state stands at a place of the code, beside the shadow that is kept
pub record IsReady {A : Type 0} (p : Program A) (s : State) (f : Frame) (gs : List Frame) (place : Place) (slots : List (Option ℕ)) (sh : Shadow A) : Type 0 where
  pub frames_are : s.frames ≡ f ∷ gs
  pub at : IsAtPlace p place slots f
  pub beside : StandsBeside p s sh
  pub room : HasRoom p s
  pub ruled : IsRuled p

-- ---- a step

-- what is suspicious of the step of a state was found, behind what was found before
abbrev pub Finds : {A : Type 0} → Program A → State → Shadow A → Shadow A → Type 0
Finds p s was now = map (suspicion_named p) now.found.items ≡ map (suspicion_named p) was.found.items ++ suspicions_of p s (shadow_of p s was)

-- by names the shadow does what the step asks of it, but for the number of moves; and it stands beside the next state
pub record Follows {A : Type 0} (p : Program A) (s : State) (was now : Shadow A) : Type 0 where
  pub shadow_is : shadow_of p (step_of p s) now ≡ shadowed_in p s (shadow_of p s was) s.frames (shadow_of p s was).frames
  pub beside : StandsBeside p (step_of p s) now
  pub position_is : now.position ≡ was.position

-- and one move later
pub record HasFollowed {A : Type 0} (p : Program A) (s : State) (was now : Shadow A) : Type 0 where
  pub shadow_is : shadow_of p (step_of p s) now ≡ shadowed p s (shadow_of p s was)
  pub beside : StandsBeside p (step_of p s) now
