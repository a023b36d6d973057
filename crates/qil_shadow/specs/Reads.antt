-- Which operand of the tree is read at a place, and the numbered operand that stands for it.
use Rattle.std.specs.Prelude.{◌≡◌, ℕ, nat_lt, Bool, List, [], ◌∷◌, length, Option, Some, None, IsSome, slice_get, option_map, ⊤}
use Rattle.qil_tree.specs.declared.tree.Operand.{Operand}
use Rattle.qil_tree.specs.declared.tree.Operand.TheVariants as operands
use Rattle.qil_tree.specs.declared.tree.Expr.{Expr}
use Rattle.qil_tree.specs.declared.tree.Expr.TheVariants as exprs
use Rattle.qil_tree.specs.declared.tree.Argument.{Argument}
use Rattle.qil_tree.specs.declared.tree.Inst.{Inst}
use Rattle.qil_tree.specs.declared.tree.InstKind.{InstKind}
use Rattle.qil_tree.specs.declared.tree.InstKind.TheVariants as insts
use Rattle.qil_tree.specs.declared.tree.JumpKind.{JumpKind}
use Rattle.qil_tree.specs.declared.tree.JumpKind.TheVariants as jumps
use Rattle.qil_tree.specs.declared.tree.Block.{Block}
use Rattle.qil_tree.specs.declared.tree.Program.{Program}
use Rattle.qil_memory.specs.qil_rules.Text.{IsAmong}
use Rattle.qil_memory.specs.qil_layout.Layout.{address_of}
use Rattle.qil_semantics.specs.State.{Name}
use Rattle.qil_code.specs.declared.numbered.NumberedOperand.{NumberedOperand}
use Rattle.qil_code.specs.declared.numbered.NumberedOperand.TheVariants as numbered
use Rattle.qil_code.specs.Numbered.{block_at, names_of, operand_of}
use Rattle.qil_shadow.specs.declared.constants.Reading.{Reading}
use Rattle.qil_shadow.specs.declared.constants.Reading.TheVariants as readings
use Rattle.qil_shadow.specs.declared.suspicion.Place.{Place}
use Rattle.qil_shadow.specs.Shadow.{Origins, none_set}
use Rattle.qil_shadow.specs.Stack.{CallShadow, held_origin}
use Rattle.qil_shadow.specs.Calls.{LiveCalls}
use Rattle.qil_shadow.specs.Shadowed.{operand_origin}
use Rattle.qil_shadow.specs.Starting.{IsOf}
use Rattle.qil_memory.specs.qil_rules.Occurrences.{returned_class}
use Rattle.qil_code.specs.Reading.{returns_at}
use Rattle.qil_shadow.specs.declared.origin.Origin.{Origin}
use Rattle.qil_shadow.specs.declared.origin.Origin.TheVariants as origins
use Rattle.qil_shadow.specs.Origins.{is_number}
use Rattle.qil_shadow.specs.Numbered.{origins_by}

-- ---- operands of the tree

-- the operand of an expression of one, and the first of two
abbrev pub first_operand : Expr → Operand
first_operand (exprs.Unary op a) = a
first_operand (exprs.Binary op a b) = a
first_operand (exprs.Compare op c a b) = a
first_operand (exprs.Extend op a) = a
first_operand (exprs.Load op a) = a

-- the second of two, or the only one
abbrev pub second_operand : Expr → Operand
second_operand (exprs.Unary op a) = a
second_operand (exprs.Binary op a b) = b
second_operand (exprs.Compare op c a b) = b
second_operand (exprs.Extend op a) = a
second_operand (exprs.Load op a) = a

abbrev pub of_two : Operand → Operand → Reading → Option Operand
of_two a b readings.First = Some a
of_two a b readings.Second = Some b
of_two a b (readings.Argument n) = None
of_two a b readings.Returned = None

abbrev pub of_arguments : List Argument → Reading → Option Operand
of_arguments args readings.First = None
of_arguments args readings.Second = None
of_arguments args (readings.Argument n) = option_map (λ a. a.value) (slice_get args n)
of_arguments args readings.Returned = None

abbrev pub operand_in : {A : Type 0} → InstKind A → Reading → Option Operand
operand_in (insts.Assign to e) r = of_two (first_operand e) (second_operand e) r
operand_in (insts.Alloc to op n) r = None
operand_in (insts.Store width a b) r = of_two a b r
operand_in (insts.Blit a b n) r = of_two a b r
operand_in (insts.Call to callee args) r = of_arguments args r

abbrev pub returned_in : JumpKind → Option Operand
returned_in (jumps.Jmp l) = None
returned_in (jumps.Jnz a l m) = None
returned_in (jumps.Ret a) = a
returned_in jumps.Hlt = None

abbrev pub operand_by : {A : Type 0} → Block A → Option (Inst A) → Reading → Option Operand
operand_by b (Some i) r = operand_in i.kind r
operand_by b None r = returned_in b.jump.kind

-- of what stands at a place of a block
abbrev pub operand_at : {A : Type 0} → Block A → ℕ → Reading → Option Operand
operand_at b k r = operand_by b (slice_get b.insts k) r

abbrev pub operand_there : {A : Type 0} → Option (Block A) → ℕ → Reading → Option Operand
operand_there (Some b) k r = operand_at b k r
operand_there None k r = None

abbrev pub read_at : {A : Type 0} → Program A → Place → Reading → Option Operand
read_at p place r = operand_there (block_at p place.func.index place.block.index) place.index r

-- ---- and by number

-- a global has an address, and a temporary is one of the function
abbrev pub IsKnown : {A : Type 0} → Program A → List Name → Operand → Type 0
IsKnown p ns (operands.Number n) = ⊤
IsKnown p ns (operands.Global g) = IsSome (address_of p g)
IsKnown p ns (operands.Temp x) = IsAmong x ns

-- a constant has the value of an operand: the address of a global
abbrev pub HasValue : {A : Type 0} → Program A → Operand → ℕ → Type 0
HasValue p (operands.Number n) v = ⊤
HasValue p (operands.Global g) v = address_of p g ≡ Some v
HasValue p (operands.Temp x) v = ⊤

-- the numbered operand stands for the one of the tree
pub record IsFor {A : Type 0} (p : Program A) (ns : List Name) (a : Operand) (operand : NumberedOperand) : Type 0 where
  pub number : operand ≡ operand_of p ns a
  pub known : IsKnown p ns a

-- it is read at a place
pub record IsRead {A : Type 0} (p : Program A) (place : Place) (r : Reading) (a : Operand) (operand : NumberedOperand) : Type 0 where
  pub here : read_at p place r ≡ Some a
  pub is_for : IsFor p (names_of p place.func.index) a operand

-- ---- the temporaries of the innermost call, which runs the function of a number

abbrev pub innermost : {A : Type 0} → Program A → ℕ → List CallShadow → Origins
innermost p f [] = none_set
innermost p f (c ∷ cs) = origins_by (names_of p f) c.origins

-- it has a slot for each
abbrev pub HasSlots : {A : Type 0} → Program A → ℕ → List CallShadow → Type 0
HasSlots p f [] = ⊥
HasSlots p f (c ∷ cs) = length (names_of p f) ≡ length c.origins

-- an operand is a number for sure: no name has an address below 1024
abbrev pub is_sure : List CallShadow → NumberedOperand → Bool
is_sure cs (numbered.Constant v) = nat_lt v 1024
is_sure cs (numbered.Slot s) = is_number (held_origin cs s)

-- what a return at a place gives its caller is made of this: the operand of the tree where the function's class is wanted
abbrev pub IsReturned : {A : Type 0} → Program A → Program A → LiveCalls → ℕ → Place → Option NumberedOperand → Origin → Type 0
IsReturned p names calls data_end place None m = m ≡ origins.Number
IsReturned p names calls data_end place (Some operand) m =
    IsOf p names calls.objects.starts data_end × HasSlots p place.func.index calls.calls
    × ((a : Operand) × IsRead p place readings.Returned a operand × (m ≡ operand_origin p (innermost p place.func.index calls.calls) (returned_class (returns_at p place.func.index)) a))
