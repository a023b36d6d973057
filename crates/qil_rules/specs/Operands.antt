-- What each instruction reads, and the class that each operand stands in; what it sets.
use Rattle.std.specs.Prelude.{List, [], ◌∷◌, Option, Some, None, map, option_map}
use Rattle.qil_tree.specs.declared.ops.Class.{Class}
use Rattle.qil_tree.specs.declared.ops.Class.TheVariants as classes
use Rattle.qil_tree.specs.declared.ops.Width.{Width}
use Rattle.qil_tree.specs.declared.ops.Width.TheVariants as widths
use Rattle.qil_tree.specs.declared.ops.BinaryOp.{BinaryOp}
use Rattle.qil_tree.specs.declared.ops.BinaryOp.TheVariants as binary_ops
use Rattle.qil_tree.specs.declared.ops.Extension.TheVariants as extensions
use Rattle.qil_tree.specs.declared.ops.LoadOp.TheVariants as load_ops
use Rattle.qil_tree.specs.declared.tree.Operand.{Operand}
use Rattle.qil_tree.specs.declared.tree.Target.{Target}
use Rattle.qil_tree.specs.declared.tree.Expr.{Expr}
use Rattle.qil_tree.specs.declared.tree.Expr.TheVariants as exprs
use Rattle.qil_tree.specs.declared.tree.CallResult.{CallResult}
use Rattle.qil_tree.specs.declared.tree.Argument.{Argument}
use Rattle.qil_tree.specs.declared.tree.InstKind.{InstKind}
use Rattle.qil_tree.specs.declared.tree.InstKind.TheVariants as insts
use Rattle.qil_tree.specs.Types.{class_of}

-- an operand, and the class of value that is wanted of it
pub record Read : Type 0 where
  pub class : Class
  pub operand : Operand

abbrev pub as_class : Class → Operand → Read
as_class c a = record { class = c; operand = a }

-- the second operand: the amount of a shift is a word
abbrev pub right_class : BinaryOp → Class → Class
right_class binary_ops.Shl c = classes.W
right_class binary_ops.Shr c = classes.W
right_class binary_ops.Sar c = classes.W
right_class op c = c

-- what is stored in 8 bytes is long
abbrev pub stored_class : Width → Class
stored_class widths.L = classes.L
stored_class width = classes.W

-- the operands of an expression whose result has this class
abbrev pub expr_reads : Class → Expr → List Read
expr_reads c (exprs.Unary op a) = as_class c a ∷ []
expr_reads c (exprs.Binary op a b) = as_class c a ∷ (as_class (right_class op c) b ∷ [])
expr_reads c (exprs.Compare op d a b) = as_class d a ∷ (as_class d b ∷ [])
expr_reads c (exprs.Extend op a) = as_class classes.W a ∷ []
expr_reads c (exprs.Load op a) = as_class classes.L a ∷ []

abbrev pub argument_read : Argument → Read
argument_read a = as_class (class_of a.abi_type) a.value

-- the operands of an instruction, from the left
abbrev pub inst_reads : {A : Type 0} → InstKind A → List Read
inst_reads (insts.Assign to e) = expr_reads to.class e
inst_reads (insts.Alloc to op n) = as_class classes.L n ∷ []
inst_reads (insts.Store width a b) = as_class (stored_class width) a ∷ (as_class classes.L b ∷ [])
inst_reads (insts.Blit a b n) = as_class classes.L a ∷ (as_class classes.L b ∷ [])
inst_reads (insts.Call to callee args) = as_class classes.L callee ∷ map argument_read args

abbrev pub call_target : CallResult → Target
call_target r = record { name = r.name; class = class_of r.abi_type }

-- the temporary that an instruction sets, with its class
abbrev pub inst_target : {A : Type 0} → InstKind A → Option Target
inst_target (insts.Assign to e) = Some to
inst_target (insts.Alloc to op n) = Some to
inst_target (insts.Store width a b) = None
inst_target (insts.Blit a b n) = None
inst_target (insts.Call to callee args) = option_map call_target to

-- the class that is written for a result that is always long
abbrev pub long_class : Class → Expr → Option Class
long_class c (exprs.Extend extensions.Sw a) = Some c
long_class c (exprs.Extend extensions.Uw a) = Some c
long_class c (exprs.Load load_ops.L a) = Some c
long_class c e = None

abbrev pub inst_long_class : {A : Type 0} → InstKind A → Option Class
inst_long_class (insts.Assign to e) = long_class to.class e
inst_long_class (insts.Alloc to op n) = Some to.class
inst_long_class kind = None
