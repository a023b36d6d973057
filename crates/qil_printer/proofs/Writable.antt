-- Trees that can be written: their names are names, and their numbers have 64 bits.
use Rattle.std.proofs.Common.{◌<◌, ◌^◌, List, [], ◌∷◌, Option, Some, None}
use Rattle.qil_lexer.specs.Shape.{IsName}
use Rattle.qil_tree.specs.declared.tree.Operand.{Operand}
use Rattle.qil_tree.specs.declared.tree.Operand.TheVariants as operands
use Rattle.qil_tree.specs.declared.tree.Target.{Target}
use Rattle.qil_tree.specs.declared.tree.Expr.{Expr}
use Rattle.qil_tree.specs.declared.tree.Expr.TheVariants as exprs
use Rattle.qil_tree.specs.declared.tree.CallResult.{CallResult}
use Rattle.qil_tree.specs.declared.tree.Argument.{Argument}
use Rattle.qil_tree.specs.declared.tree.InstKind.{InstKind}
use Rattle.qil_tree.specs.declared.tree.InstKind.TheVariants as inst_kinds
use Rattle.qil_tree.specs.declared.tree.PhiSource.{PhiSource}
use Rattle.qil_tree.specs.declared.tree.Phi.{Phi}
use Rattle.qil_tree.specs.declared.tree.JumpKind.{JumpKind}
use Rattle.qil_tree.specs.declared.tree.JumpKind.TheVariants as jump_kinds
use Rattle.qil_printer.proofs.Writes.{AllOf}

abbrev pub GoodOperand : Operand → Type 0
GoodOperand (operands.Number n) = n < 2 ^ 64
GoodOperand (operands.Global name) = IsName name
GoodOperand (operands.Temp name) = IsName name

abbrev pub GoodTwo : Operand × Operand → Type 0
GoodTwo v = GoodOperand v.0 × GoodOperand v.1

abbrev pub GoodTarget : Target → Type 0
GoodTarget t = IsName t.name

abbrev pub GoodExpr : Expr → Type 0
GoodExpr (exprs.Unary op a) = GoodOperand a
GoodExpr (exprs.Binary op a b) = GoodOperand a × GoodOperand b
GoodExpr (exprs.Compare op class a b) = GoodOperand a × GoodOperand b
GoodExpr (exprs.Extend op a) = GoodOperand a
GoodExpr (exprs.Load op a) = GoodOperand a

abbrev pub GoodArgument : Argument → Type 0
GoodArgument a = GoodOperand a.value

abbrev pub GoodResult : Option CallResult → Type 0
GoodResult None = Unit {0}
GoodResult (Some r) = IsName r.name

abbrev pub GoodKind : {A : Type 0} → InstKind A → Type 0
GoodKind (inst_kinds.Assign t e) = GoodTarget t × GoodExpr e
GoodKind (inst_kinds.Alloc t op size) = GoodTarget t × GoodOperand size
GoodKind (inst_kinds.Store width value to) = GoodOperand value × GoodOperand to
GoodKind (inst_kinds.Blit from to count) = GoodOperand from × GoodOperand to × (count < 2 ^ 64)
GoodKind (inst_kinds.Call result callee arguments) = GoodResult result × GoodOperand callee × AllOf GoodArgument arguments

abbrev pub GoodSource : PhiSource → Type 0
GoodSource s = IsName s.label × GoodOperand s.value

-- one source or more
abbrev pub GoodSources : List PhiSource → Type 0
GoodSources [] = ⊥
GoodSources (s ∷ others) = GoodSource s × AllOf GoodSource others

abbrev pub GoodPhi : {A : Type 0} → Phi A → Type 0
GoodPhi p = GoodTarget p.target × GoodSources p.sources

abbrev pub GoodJump : JumpKind → Type 0
GoodJump (jump_kinds.Jmp to) = IsName to
GoodJump (jump_kinds.Jnz value if_set if_zero) = GoodOperand value × IsName if_set × IsName if_zero
GoodJump (jump_kinds.Ret None) = Unit {0}
GoodJump (jump_kinds.Ret (Some value)) = GoodOperand value
GoodJump jump_kinds.Hlt = Unit {0}
