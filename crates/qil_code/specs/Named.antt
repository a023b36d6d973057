-- Numbered parts, read back through names.
use Rattle.std.specs.Prelude.{List, map, option_map, unwrap_or}
use Rattle.qil_tree.specs.declared.ops.Class.{Class}
use Rattle.qil_tree.specs.declared.tree.Operand.{Operand}
use Rattle.qil_tree.specs.declared.tree.Operand.TheVariants as operands
use Rattle.qil_tree.specs.declared.tree.Target.{Target}
use Rattle.qil_tree.specs.declared.tree.Expr.{Expr}
use Rattle.qil_tree.specs.declared.tree.Expr.TheVariants as exprs
use Rattle.qil_tree.specs.declared.tree.CallResult.{CallResult}
use Rattle.qil_tree.specs.declared.tree.Argument.{Argument}
use Rattle.qil_tree.specs.declared.tree.InstKind.{InstKind}
use Rattle.qil_tree.specs.declared.tree.InstKind.TheVariants as insts
use Rattle.qil_tree.specs.declared.tree.JumpKind.{JumpKind}
use Rattle.qil_tree.specs.declared.tree.JumpKind.TheVariants as jumps
use Rattle.qil_tree.specs.declared.tree.Program.{Program}
use Rattle.qil_semantics.specs.qil_layout.Layout.{address_of}
use Rattle.qil_semantics.specs.State.{Name}
use Rattle.qil_semantics.specs.Step as step
use Rattle.qil_code.specs.declared.numbered.Slot.{Slot}
use Rattle.qil_code.specs.declared.numbered.NumberedOperand.{NumberedOperand}
use Rattle.qil_code.specs.declared.numbered.NumberedOperand.TheVariants as numbered_operands
use Rattle.qil_code.specs.declared.numbered.NumberedExpr.{NumberedExpr}
use Rattle.qil_code.specs.declared.numbered.NumberedExpr.TheVariants as numbered_exprs
use Rattle.qil_code.specs.declared.numbered.Receiver.{Receiver}
use Rattle.qil_code.specs.declared.numbered.NumberedArgument.{NumberedArgument}
use Rattle.qil_code.specs.declared.numbered.NumberedInst.{NumberedInst}
use Rattle.qil_code.specs.declared.numbered.NumberedInst.TheVariants as numbered_insts
use Rattle.qil_code.specs.declared.numbered.PhiMove.{PhiMove}
use Rattle.qil_code.specs.declared.numbered.NumberedJump.{NumberedJump}
use Rattle.qil_code.specs.declared.numbered.NumberedJump.TheVariants as numbered_jumps
use Rattle.qil_code.specs.Slots.{name_at}

-- ---- numbered parts, with these names of the slots

abbrev pub named_operand : List Name → NumberedOperand → Operand
named_operand ns (numbered_operands.Constant n) = operands.Number n
named_operand ns (numbered_operands.Slot s) = operands.Temp (name_at ns s.index)

abbrev pub named_target : List Name → Slot → Class → Target
named_target ns s c = record { name = name_at ns s.index; class = c }

abbrev pub named_expr : List Name → NumberedExpr → Expr
named_expr ns (numbered_exprs.Unary op a) = exprs.Unary op (named_operand ns a)
named_expr ns (numbered_exprs.Binary op a b) = exprs.Binary op (named_operand ns a) (named_operand ns b)
named_expr ns (numbered_exprs.Compare op c a b) = exprs.Compare op c (named_operand ns a) (named_operand ns b)
named_expr ns (numbered_exprs.Extend op a) = exprs.Extend op (named_operand ns a)
named_expr ns (numbered_exprs.Load op a) = exprs.Load op (named_operand ns a)

abbrev pub named_receiver : List Name → Receiver → CallResult
named_receiver ns r = record { name = name_at ns r.slot.index; abi_type = r.abi_type }

abbrev pub named_argument : List Name → NumberedArgument → Argument
named_argument ns a = record { abi_type = a.abi_type; value = named_operand ns a.source }

abbrev pub named_inst : {A : Type 0} → List Name → NumberedInst A → InstKind A
named_inst ns (numbered_insts.Assign c s e) = insts.Assign (named_target ns s c) (named_expr ns e)
named_inst ns (numbered_insts.Alloc c s op n) = insts.Alloc (named_target ns s c) op (named_operand ns n)
named_inst ns (numbered_insts.Store width a b) = insts.Store width (named_operand ns a) (named_operand ns b)
named_inst ns (numbered_insts.Blit a b n) = insts.Blit (named_operand ns a) (named_operand ns b) n
named_inst ns (numbered_insts.Call to callee args) =
    insts.Call (option_map (named_receiver ns) to) (named_operand ns callee) (map (named_argument ns) args)

abbrev pub named_move : List Name → PhiMove → step.PhiMove
named_move ns m = record { target = named_target ns m.target m.class; value = named_operand ns m.source }

-- of a jump: with these names of the slots, and these labels of the blocks
abbrev pub named_jump : {A : Type 0} → List Name → List Name → NumberedJump A → JumpKind
named_jump ns ls (numbered_jumps.Jmp e) = jumps.Jmp (name_at ls e.to.index)
named_jump ns ls (numbered_jumps.Jnz a e f) = jumps.Jnz (named_operand ns a) (name_at ls e.to.index) (name_at ls f.to.index)
named_jump ns ls (numbered_jumps.Ret a) = jumps.Ret (option_map (named_operand ns) a)
named_jump ns ls numbered_jumps.Hlt = jumps.Hlt

-- ---- the tree, with globals as their addresses

abbrev pub resolved : {A : Type 0} → Program A → Operand → Operand
resolved p (operands.Number n) = operands.Number n
resolved p (operands.Global g) = operands.Number (unwrap_or (address_of p g) 0)
resolved p (operands.Temp x) = operands.Temp x

abbrev pub resolved_expr : {A : Type 0} → Program A → Expr → Expr
resolved_expr p (exprs.Unary op a) = exprs.Unary op (resolved p a)
resolved_expr p (exprs.Binary op a b) = exprs.Binary op (resolved p a) (resolved p b)
resolved_expr p (exprs.Compare op c a b) = exprs.Compare op c (resolved p a) (resolved p b)
resolved_expr p (exprs.Extend op a) = exprs.Extend op (resolved p a)
resolved_expr p (exprs.Load op a) = exprs.Load op (resolved p a)

abbrev pub resolved_argument : {A : Type 0} → Program A → Argument → Argument
resolved_argument p a = record { abi_type = a.abi_type; value = resolved p a.value }

abbrev pub resolved_inst : {A : Type 0} → Program A → InstKind A → InstKind A
resolved_inst p (insts.Assign to e) = insts.Assign to (resolved_expr p e)
resolved_inst p (insts.Alloc to op n) = insts.Alloc to op (resolved p n)
resolved_inst p (insts.Store width a b) = insts.Store width (resolved p a) (resolved p b)
resolved_inst p (insts.Blit a b n) = insts.Blit (resolved p a) (resolved p b) n
resolved_inst p (insts.Call to callee args) = insts.Call to (resolved p callee) (map (resolved_argument p) args)

abbrev pub resolved_move : {A : Type 0} → Program A → step.PhiMove → step.PhiMove
resolved_move p m = record { target = m.target; value = resolved p m.value }

abbrev pub resolved_jump : {A : Type 0} → Program A → JumpKind → JumpKind
resolved_jump p (jumps.Jmp l) = jumps.Jmp l
resolved_jump p (jumps.Jnz a l m) = jumps.Jnz (resolved p a) l m
resolved_jump p (jumps.Ret a) = jumps.Ret (option_map (resolved p) a)
resolved_jump p jumps.Hlt = jumps.Hlt
