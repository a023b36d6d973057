-- What an instruction leaves as it was, by number; and how the calls lie behind it, whatever their temporaries are made of.
use Rattle.std.specs.Prelude.{◌≡◌, ℕ, ◌+◌, List, [], ◌∷◌, length, map, Option, Some, None, option_map, slice_get}
use Rattle.qil_tree.specs.declared.tree.CallResult.{CallResult}
use Rattle.qil_tree.specs.declared.tree.InstKind.{InstKind}
use Rattle.qil_tree.specs.declared.tree.InstKind.TheVariants as insts
use Rattle.qil_tree.specs.declared.tree.Program.{Program}
use Rattle.qil_memory.specs.qil_layout.Layout.{rounded}
use Rattle.qil_memory.specs.qil_layout.declared.callee.Callee.{Callee}
use Rattle.qil_memory.specs.qil_layout.declared.callee.Callee.TheVariants as callees
use Rattle.qil_memory.specs.qil_layout.Callee.{callee_at}
use Rattle.qil_memory.specs.Buffers.{stack_base}
use Rattle.qil_semantics.specs.State.{State}
use Rattle.qil_semantics.specs.Values.{first}
use Rattle.qil_semantics.specs.Step.{alignment}
use Rattle.qil_code.specs.declared.numbered.Receiver.{Receiver}
use Rattle.qil_code.specs.declared.numbered.NumberedOperand.{NumberedOperand}
use Rattle.qil_code.specs.declared.numbered.NumberedExpr.{NumberedExpr}
use Rattle.qil_code.specs.declared.numbered.NumberedExpr.TheVariants as exprs
use Rattle.qil_code.specs.declared.numbered.NumberedInst.{NumberedInst}
use Rattle.qil_code.specs.declared.numbered.NumberedInst.TheVariants as numbered
use Rattle.qil_code.specs.Numbered.{names_of, receiver_of}
use Rattle.qil_shadow.specs.declared.suspicion.Place.{Place}
use Rattle.qil_shadow.specs.declared.shadow.Shadow.{Shadow}
use Rattle.qil_shadow.specs.Stack.{CallShadow}
use Rattle.qil_shadow.specs.Calls.{LiveCalls}
use Rattle.qil_shadow.specs.Numbered.{value_in}
use Rattle.qil_shadow.specs.Instructions.{IsAt, IsInst, IsSound}

-- ---- how calls lie

-- how many temporaries a call has, the top of the stack from before it, and what of its caller takes what it returns
pub record CallShape : Type 0 where
  pub slots : ℕ
  pub floor : ℕ
  pub receiver : Option Receiver

abbrev pub shape_of : CallShadow → CallShape
shape_of c = record { slots = length c.origins; floor = c.floor; receiver = c.receiver }

abbrev pub shapes_of : List CallShadow → List CallShape
shapes_of cs = map shape_of cs

-- that of the function of a number, at the start of a run
abbrev pub first_shape : {A : Type 0} → Program A → ℕ → CallShape
first_shape p i = record { slots = length (names_of p i); floor = stack_base; receiver = None }

-- a call of a function is added, which has a slot for each of its temporaries
abbrev pub with_called : {A : Type 0} → Program A → ℕ → Option CallResult → Option Callee → ℕ → List CallShape → List CallShape
with_called p i to (Some (callees.Defined id)) top cs = record { slots = length (names_of p id.index); floor = top; receiver = option_map (receiver_of (names_of p i)) to } ∷ cs
with_called p i to callee top cs = cs

-- behind an instruction of the function of a number
abbrev pub shapes_behind : {A : Type 0} → Program A → ℕ → InstKind A → List ℕ → ℕ → List CallShape → List CallShape
shapes_behind p i (insts.Call to callee args) vs top cs = with_called p i to (callee_at p (first vs)) top cs
shapes_behind p i kind vs top cs = cs

-- the top is then the end of an object that was made
abbrev pub top_behind : {A : Type 0} → InstKind A → List ℕ → ℕ → ℕ
top_behind (insts.Alloc to op n) vs top = rounded (alignment op) top + first vs
top_behind kind vs top = top

pub record LiesBehind {A : Type 0} (p : Program A) (i : ℕ) (kind : InstKind A) (vs : List ℕ) (was now : LiveCalls) : Type 0 where
  pub shapes_are : shapes_of now.calls ≡ shapes_behind p i kind vs was.top (shapes_of was.calls)
  pub top_is : now.top ≡ top_behind kind vs was.top
  pub starts_are : now.objects.starts ≡ was.objects.starts

-- ---- operands that are unset

abbrev pub expr_operands : NumberedExpr → List NumberedOperand
expr_operands (exprs.Unary op a) = a ∷ []
expr_operands (exprs.Binary op a b) = a ∷ (b ∷ [])
expr_operands (exprs.Compare op c a b) = a ∷ (b ∷ [])
expr_operands (exprs.Extend op a) = a ∷ []
expr_operands (exprs.Load op a) = a ∷ []

-- what an instruction reads, in the order of the tree's
abbrev pub operands_of : {A : Type 0} → NumberedInst A → List NumberedOperand
operands_of (numbered.Assign c to e) = expr_operands e
operands_of (numbered.Alloc c to op n) = n ∷ []
operands_of (numbered.Store w a b) = a ∷ (b ∷ [])
operands_of (numbered.Blit a b n) = a ∷ (b ∷ [])
operands_of (numbered.Call to callee args) = callee ∷ map (λ a. a.source) args

-- one of some operands is unset
abbrev pub IsUnset : List (Option ℕ) → List NumberedOperand → Type 0
IsUnset slots operands = (k : ℕ) × (slice_get (map (value_in slots) operands) k ≡ Some None)

-- ---- what is kept

-- the program, the number of moves, and the parts of functions in a heap
pub record KeepsOwn {A : Type 0} (was now : Shadow A) : Type 0 where
  pub names_are : now.names ≡ was.names
  pub end_is : now.data_end ≡ was.data_end
  pub position_is : now.position ≡ was.position
  pub roles_are : now.heap.roles.items ≡ was.heap.roles.items

-- behind an instruction calls lie so where it doesn't fault; and where an operand is unset it accesses nothing
pub record HasLeft {A : Type 0} (p : Program A) (place : Place) (slots : List (Option ℕ)) (inst : NumberedInst A) (was now : Shadow A) : Type 0 where
  pub own : KeepsOwn was now
  pub lies : (kind : InstKind A) (vs : List ℕ) (s : State) → IsInst p place slots inst kind vs → IsAt p place was → was.calls.top ≡ s.top → IsSound p s (length was.calls.calls) kind vs
      → LiesBehind p place.func.index kind vs was.calls now.calls
  pub unset : IsUnset slots (operands_of inst) → now.found.items ≡ was.found.items
