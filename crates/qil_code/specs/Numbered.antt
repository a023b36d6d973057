-- The code of a program, as a function of its tree: temporaries and blocks as their numbers, globals as their addresses.
use Rattle.std.specs.Prelude.{ℕ, List, [], map, flat_map, Option, Some, None, option_map, unwrap_or, slice_get}
use Rattle.qil_tree.specs.declared.ops.AbiType.{AbiType}
use Rattle.qil_tree.specs.declared.ops.Class.{Class}
use Rattle.qil_tree.specs.declared.ops.Class.TheVariants as classes
use Rattle.qil_tree.specs.declared.tree.Operand.{Operand}
use Rattle.qil_tree.specs.declared.tree.Operand.TheVariants as operands
use Rattle.qil_tree.specs.declared.tree.Target.{Target}
use Rattle.qil_tree.specs.declared.tree.Expr.{Expr}
use Rattle.qil_tree.specs.declared.tree.Expr.TheVariants as exprs
use Rattle.qil_tree.specs.declared.tree.CallResult.{CallResult}
use Rattle.qil_tree.specs.declared.tree.Argument.{Argument}
use Rattle.qil_tree.specs.declared.tree.Inst.{Inst}
use Rattle.qil_tree.specs.declared.tree.InstKind.{InstKind}
use Rattle.qil_tree.specs.declared.tree.InstKind.TheVariants as insts
use Rattle.qil_tree.specs.declared.tree.Param.{Param}
use Rattle.qil_tree.specs.declared.tree.JumpKind.{JumpKind}
use Rattle.qil_tree.specs.declared.tree.JumpKind.TheVariants as jumps
use Rattle.qil_tree.specs.declared.tree.Phi.{Phi}
use Rattle.qil_tree.specs.declared.tree.Block.{Block}
use Rattle.qil_tree.specs.declared.tree.Func.{Func}
use Rattle.qil_tree.specs.declared.tree.Program.{Program}
use Rattle.qil_rules.specs.Occurrences.{func_occurrences}
use Rattle.qil_semantics.specs.qil_layout.Layout.{address_of}
use Rattle.qil_semantics.specs.State.{Name}
use Rattle.qil_semantics.specs.Names.{temps_named}
use Rattle.qil_semantics.specs.Poke.{class_in}
use Rattle.qil_semantics.specs.Step.{phi_moves, block_labelled}
use Rattle.qil_semantics.specs.Step as step
use Rattle.qil_code.specs.declared.numbered.Slot.{Slot}
use Rattle.qil_code.specs.declared.numbered.NumberedOperand.{NumberedOperand}
use Rattle.qil_code.specs.declared.numbered.NumberedOperand.TheVariants as numbered_operands
use Rattle.qil_code.specs.declared.numbered.NumberedExpr.{NumberedExpr}
use Rattle.qil_code.specs.declared.numbered.NumberedExpr.TheVariants as numbered_exprs
use Rattle.qil_code.specs.declared.numbered.Receiver.{Receiver}
use Rattle.qil_code.specs.declared.numbered.NumberedArgument.{NumberedArgument}
use Rattle.qil_code.specs.declared.numbered.NumberedInst.{NumberedInst}
use Rattle.qil_code.specs.declared.numbered.NumberedInst.TheVariants as numbered_insts
use Rattle.qil_code.specs.declared.numbered.PhiMove.{PhiMove}
use Rattle.qil_code.specs.declared.numbered.Edge.{Edge}
use Rattle.qil_code.specs.declared.numbered.NumberedJump.{NumberedJump}
use Rattle.qil_code.specs.declared.numbered.NumberedJump.TheVariants as numbered_jumps
use Rattle.qil_code.specs.declared.numbered.NumberedBlock.{NumberedBlock}
use Rattle.qil_code.specs.declared.numbered.NumberedFunc.{NumberedFunc}
use Rattle.qil_code.specs.declared.numbered.FuncCode.{FuncCode}
use Rattle.qil_code.specs.Slots.{number_in}
use Rattle.qil_code.specs.Gather.{labels_in}

-- ---- operands and instructions, among the names of a function's temporaries

abbrev pub slot_in : List Name → Name → Slot
slot_in ns x = record { index = number_in ns x }

abbrev pub operand_of : {A : Type 0} → Program A → List Name → Operand → NumberedOperand
operand_of p ns (operands.Number n) = numbered_operands.Constant n
operand_of p ns (operands.Global g) = numbered_operands.Constant (unwrap_or (address_of p g) 0)
operand_of p ns (operands.Temp x) = numbered_operands.Slot (slot_in ns x)

abbrev pub expr_of : {A : Type 0} → Program A → List Name → Expr → NumberedExpr
expr_of p ns (exprs.Unary op a) = numbered_exprs.Unary op (operand_of p ns a)
expr_of p ns (exprs.Binary op a b) = numbered_exprs.Binary op (operand_of p ns a) (operand_of p ns b)
expr_of p ns (exprs.Compare op c a b) = numbered_exprs.Compare op c (operand_of p ns a) (operand_of p ns b)
expr_of p ns (exprs.Extend op a) = numbered_exprs.Extend op (operand_of p ns a)
expr_of p ns (exprs.Load op a) = numbered_exprs.Load op (operand_of p ns a)

abbrev pub receiver_of : List Name → CallResult → Receiver
receiver_of ns r = record { slot = slot_in ns r.name; abi_type = r.abi_type }

abbrev pub argument_of : {A : Type 0} → Program A → List Name → Argument → NumberedArgument
argument_of p ns a = record { abi_type = a.abi_type; source = operand_of p ns a.value }

abbrev pub kind_of : {A : Type 0} → Program A → List Name → InstKind A → NumberedInst A
kind_of p ns (insts.Assign to e) = numbered_insts.Assign to.class (slot_in ns to.name) (expr_of p ns e)
kind_of p ns (insts.Alloc to op n) = numbered_insts.Alloc to.class (slot_in ns to.name) op (operand_of p ns n)
kind_of p ns (insts.Store width a b) = numbered_insts.Store width (operand_of p ns a) (operand_of p ns b)
kind_of p ns (insts.Blit a b n) = numbered_insts.Blit (operand_of p ns a) (operand_of p ns b) n
kind_of p ns (insts.Call to callee args) =
    numbered_insts.Call (option_map (receiver_of ns) to) (operand_of p ns callee) (map (argument_of p ns) args)

abbrev pub inst_of : {A : Type 0} → Program A → List Name → Inst A → NumberedInst A
inst_of p ns inst = kind_of p ns inst.kind

-- ---- jumps, with what the phis do where they go

abbrev pub move_with : {A : Type 0} → Program A → List Name → Target → Operand → PhiMove
move_with p ns to value = record { class = to.class; target = slot_in ns to.name; source = operand_of p ns value }

abbrev pub move_of : {A : Type 0} → Program A → List Name → step.PhiMove → PhiMove
move_of p ns m = move_with p ns m.target m.value

-- what a phi does where the block of a label is left
abbrev pub one_phi_moves : {A : Type 0} → Program A → List Name → Name → Phi A → List PhiMove
one_phi_moves p ns left phi = map (move_of p ns) (phi_moves left phi)

-- what the phis of a block do there
abbrev pub block_moves : {A : Type 0} → Program A → List Name → Name → Block A → List PhiMove
block_moves p ns left b = flat_map (one_phi_moves p ns left) b.phis

abbrev pub moves_into : {A : Type 0} → Program A → List Name → Name → Option (Block A) → List PhiMove
moves_into p ns left None = []
moves_into p ns left (Some b) = block_moves p ns left b

abbrev pub edge_of : {A : Type 0} → Program A → List (Block A) → List Name → Name → Name → Edge A
edge_of p blocks ns left l = record {
  to = record { index = number_in (labels_in blocks) l };
  moves = moves_into p ns left (block_labelled blocks l);
}

abbrev pub jump_of : {A : Type 0} → Program A → List (Block A) → List Name → Name → JumpKind → NumberedJump A
jump_of p blocks ns left (jumps.Jmp l) = numbered_jumps.Jmp (edge_of p blocks ns left l)
jump_of p blocks ns left (jumps.Jnz a l m) =
    numbered_jumps.Jnz (operand_of p ns a) (edge_of p blocks ns left l) (edge_of p blocks ns left m)
jump_of p blocks ns left (jumps.Ret a) = numbered_jumps.Ret (option_map (operand_of p ns) a)
jump_of p blocks ns left jumps.Hlt = numbered_jumps.Hlt

abbrev pub block_of : {A : Type 0} → Program A → List (Block A) → List Name → Block A → NumberedBlock A
block_of p blocks ns b = record { insts = map (inst_of p ns) b.insts; jump = jump_of p blocks ns b.label b.jump.kind }

-- ---- functions

-- the class of a temporary: that of its first definition
abbrev pub class_of_temp : {A : Type 0} → Func A → Name → Class
class_of_temp func x = unwrap_or (class_in (func_occurrences func) x) classes.W

abbrev pub param_of : List Name → Param → Slot × AbiType
param_of ns q = (slot_in ns q.name, q.abi_type)

abbrev pub func_with : {A : Type 0} → Program A → Func A → List Name → NumberedFunc A
func_with p func ns = record {
  classes = map (class_of_temp func) ns;
  params = map (param_of ns) func.params;
  returns = func.returns;
  blocks = map (block_of p func.blocks ns) func.blocks;
}

unfoldable pub func_of : {A : Type 0} → Program A → Func A → NumberedFunc A
func_of p func = func_with p func (temps_named func)

-- ---- parts by number

abbrev pub func_at : {A : Type 0} → Program A → ℕ → Option (Func A)
func_at p f = slice_get p.funcs f

abbrev pub block_in : {A : Type 0} → Option (Func A) → ℕ → Option (Block A)
block_in None b = None
block_in (Some func) b = slice_get func.blocks b

abbrev pub block_at : {A : Type 0} → Program A → ℕ → ℕ → Option (Block A)
block_at p f b = block_in (func_at p f) b

abbrev pub inst_in : {A : Type 0} → Option (Block A) → ℕ → Option (Inst A)
inst_in None k = None
inst_in (Some b) k = slice_get b.insts k

abbrev pub inst_at : {A : Type 0} → Program A → ℕ → ℕ → ℕ → Option (Inst A)
inst_at p f b k = inst_in (block_at p f b) k

-- the names of a function's temporaries, by slot
abbrev pub names_in : {A : Type 0} → Option (Func A) → List Name
names_in None = []
names_in (Some func) = temps_named func

unfoldable pub names_of : {A : Type 0} → Program A → ℕ → List Name
names_of p f = names_in (func_at p f)

-- ---- functions with the names of their parts

unfoldable pub func_code : {A : Type 0} → Program A → Func A → FuncCode A
func_code p func = record { code = func_of p func; temps = temps_named func; labels = labels_in func.blocks }
