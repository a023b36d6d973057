-- The names in parts of a function, in the order of the text.
use Rattle.std.specs.Prelude.{List, map}
use Rattle.std.specs.List.{flat_map}
use Rattle.qil_tree.specs.declared.tree.Expr.{Expr}
use Rattle.qil_tree.specs.declared.tree.Expr.TheVariants as exprs
use Rattle.qil_tree.specs.declared.tree.Argument.{Argument}
use Rattle.qil_tree.specs.declared.tree.PhiSource.{PhiSource}
use Rattle.qil_tree.specs.declared.tree.Param.{Param}
use Rattle.qil_tree.specs.declared.tree.Block.{Block}
use Rattle.std.specs.Prelude.{◌++◌}
use Rattle.qil_rules.specs.Operands.{argument_read}
use Rattle.qil_semantics.specs.State.{Name}
use Rattle.qil_semantics.specs.Names.{operand_names}

abbrev pub expr_names : Expr → List Name
expr_names (exprs.Unary op a) = operand_names a
expr_names (exprs.Binary op a b) = operand_names a ++ operand_names b
expr_names (exprs.Compare op c a b) = operand_names a ++ operand_names b
expr_names (exprs.Extend op a) = operand_names a
expr_names (exprs.Load op a) = operand_names a

abbrev pub arguments_names : List Argument → List Name
arguments_names args = flat_map (λ r. operand_names r.operand) (map argument_read args)

abbrev pub sources_names : List PhiSource → List Name
sources_names ss = flat_map (λ s. operand_names s.value) ss

abbrev pub param_names : List Param → List Name
param_names ps = map (λ q. q.name) ps

abbrev pub labels_in : {A : Type 0} → List (Block A) → List Name
labels_in blocks = map (λ b. b.label) blocks
