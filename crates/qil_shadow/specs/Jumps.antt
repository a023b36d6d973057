-- A jump by its number, and that of the tree; and how the calls lie behind it.
use Rattle.std.specs.Prelude.{◌≡◌, ℕ, ◌%◌, List, [], ◌∷◌, ⊤, Option, Some, None, slice_get, Ok}
use Rattle.std.specs.List.{AllByRecursion}
use Rattle.qil_tree.specs.declared.ops.Class.TheVariants as classes
use Rattle.qil_tree.specs.declared.tree.Operand.{Operand}
use Rattle.qil_tree.specs.declared.tree.JumpKind.{JumpKind}
use Rattle.qil_tree.specs.declared.tree.JumpKind.TheVariants as jumps
use Rattle.qil_tree.specs.declared.tree.Block.{Block}
use Rattle.qil_tree.specs.declared.tree.Func.{Func}
use Rattle.qil_tree.specs.declared.tree.Program.{Program}
use Rattle.qil_memory.specs.qil_rules.Text.{IsAmong}
use Rattle.qil_semantics.specs.State.{Name, Frame}
use Rattle.qil_semantics.specs.Values.{val}
use Rattle.qil_code.specs.declared.numbered.NumberedJump.{NumberedJump}
use Rattle.qil_code.specs.Facts.{jump_labels}
use Rattle.qil_code.specs.Numbered.{func_at, block_at, names_of, operand_of, edge_of, jump_of}
use Rattle.qil_shadow.specs.declared.suspicion.Place.{Place}
use Rattle.qil_shadow.specs.Stack.{CallShadow}
use Rattle.qil_shadow.specs.Calls.{LiveCalls}
use Rattle.qil_shadow.specs.Numbered.{value_in}
use Rattle.qil_shadow.specs.Reads.{IsKnown}
use Rattle.qil_shadow.specs.Instructions.{AreCalls}
use Rattle.qil_shadow.specs.Returns.{IsCalled}
use Rattle.qil_shadow.specs.Shapes.{CallShape, shapes_of}
use Rattle.qil_shadow.specs.Phis.{IsEdge}

-- ---- which jump it is

-- what it reads
abbrev pub jump_operands : JumpKind → List Operand
jump_operands (jumps.Jmp l) = []
jump_operands (jumps.Jnz a l m) = a ∷ []
jump_operands (jumps.Ret None) = []
jump_operands (jumps.Ret (Some a)) = a ∷ []
jump_operands jumps.Hlt = []

-- an edge leads from a place to the block of a label
pub record Leads {A : Type 0} (p : Program A) (place : Place) (func : Func A) (left : Block A) (l : Name) : Type 0 where
  pub target : Block A
  pub edge : IsEdge p place (edge_of p func.blocks (names_of p place.func.index) left.label l).to (edge_of p func.blocks (names_of p place.func.index) left.label l).moves func left target l

-- behind the last instruction of a block stands its jump, which has this form by number; what it reads is known, and each of its edges leads to a block
pub record IsJump {A : Type 0} (p : Program A) (place : Place) (jump : NumberedJump A) (func : Func A) (left : Block A) : Type 0 where
  pub func_is : func_at p place.func.index ≡ Some func
  pub left_is : block_at p place.func.index place.block.index ≡ Some left
  pub end : slice_get left.insts place.index ≡ None
  pub number : jump ≡ jump_of p func.blocks (names_of p place.func.index) left.label left.jump.kind
  pub known : AllByRecursion (IsKnown p (names_of p place.func.index)) (jump_operands left.jump.kind)
  pub edges : (l : Name) → IsAmong l (jump_labels left.jump.kind) → Leads p place func left l

-- ---- that the run goes on behind it

-- what a test reads is set, to what its frame holds; and a call that is over has a caller
abbrev pub GoesOn : {A : Type 0} → Program A → ℕ → List (Option ℕ) → Frame → List ℕ → List CallShadow → JumpKind → Type 0
GoesOn p i slots f fs cs (jumps.Jmp l) = ⊤
GoesOn p i slots f fs cs (jumps.Jnz a l m) = (v : ℕ) × (value_in slots (operand_of p (names_of p i) a) ≡ Some v) × (val p f.temps classes.W a ≡ Ok (v % 4294967296))
GoesOn p i slots f fs cs (jumps.Ret a) = (j : ℕ) × (js : List ℕ) × (fs ≡ j ∷ js) × AreCalls p (i ∷ (j ∷ js)) cs × IsCalled p j f cs
GoesOn p i slots f fs cs jumps.Hlt = ⊤

-- ---- how calls lie then

-- the functions that run in the calls behind a jump of a function
abbrev pub left_running : ℕ → List ℕ → JumpKind → List ℕ
left_running i fs (jumps.Jmp l) = i ∷ fs
left_running i fs (jumps.Jnz a l m) = i ∷ fs
left_running i fs (jumps.Ret a) = fs
left_running i fs jumps.Hlt = i ∷ fs

abbrev pub behind_first : List CallShape → List CallShape
behind_first [] = []
behind_first (c ∷ cs) = cs

abbrev pub first_floor : List CallShape → ℕ
first_floor [] = 0
first_floor (c ∷ cs) = c.floor

abbrev pub shapes_left : JumpKind → List CallShape → List CallShape
shapes_left (jumps.Jmp l) cs = cs
shapes_left (jumps.Jnz a l m) cs = cs
shapes_left (jumps.Ret a) cs = behind_first cs
shapes_left jumps.Hlt cs = cs

abbrev pub top_left : JumpKind → ℕ → List CallShape → ℕ
top_left (jumps.Jmp l) top cs = top
top_left (jumps.Jnz a l m) top cs = top
top_left (jumps.Ret a) top cs = first_floor cs
top_left jumps.Hlt top cs = top

pub record LiesAfter (kind : JumpKind) (was now : LiveCalls) : Type 0 where
  pub shapes_are : shapes_of now.calls ≡ shapes_left kind (shapes_of was.calls)
  pub top_is : now.top ≡ top_left kind was.top (shapes_of was.calls)
  pub starts_are : now.objects.starts ≡ was.objects.starts
