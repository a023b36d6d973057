-- Canonical texts: the tokens that an instruction, a phi or a jump of the tree is written with, and what stands
-- between them. Numbers are written in unsigned decimals, and a name by its sigil and its bytes.
use Rattle.std.specs.Prelude.{ℕ, List, [], ◌∷◌, ◌++◌, codes, decimal, Option, Some, None}
use Rattle.std.specs.List.{flat_map}
use Rattle.qil_lexer.specs.declared.token.TokenKind.{TokenKind}
use Rattle.qil_lexer.specs.declared.token.TokenKind.TheVariants as kinds
use Rattle.qil_tree.specs.declared.ops.Class.{Class}
use Rattle.qil_tree.specs.declared.ops.Class.TheVariants as classes
use Rattle.qil_tree.specs.declared.ops.AbiType.{AbiType}
use Rattle.qil_tree.specs.declared.ops.AbiType.TheVariants as types
use Rattle.qil_tree.specs.declared.ops.Width.{Width}
use Rattle.qil_tree.specs.declared.ops.Width.TheVariants as widths
use Rattle.qil_tree.specs.declared.ops.UnaryOp.{UnaryOp}
use Rattle.qil_tree.specs.declared.ops.UnaryOp.TheVariants as unary_ops
use Rattle.qil_tree.specs.declared.ops.BinaryOp.{BinaryOp}
use Rattle.qil_tree.specs.declared.ops.BinaryOp.TheVariants as binary_ops
use Rattle.qil_tree.specs.declared.ops.CompareOp.{CompareOp}
use Rattle.qil_tree.specs.declared.ops.CompareOp.TheVariants as compare_ops
use Rattle.qil_tree.specs.declared.ops.Extension.{Extension}
use Rattle.qil_tree.specs.declared.ops.Extension.TheVariants as extensions
use Rattle.qil_tree.specs.declared.ops.LoadOp.{LoadOp}
use Rattle.qil_tree.specs.declared.ops.LoadOp.TheVariants as load_ops
use Rattle.qil_tree.specs.declared.ops.AllocOp.{AllocOp}
use Rattle.qil_tree.specs.declared.ops.AllocOp.TheVariants as alloc_ops
use Rattle.qil_tree.specs.declared.tree.Operand.{Operand}
use Rattle.qil_tree.specs.declared.tree.Operand.TheVariants as operands
use Rattle.qil_tree.specs.declared.tree.Target.{Target}
use Rattle.qil_tree.specs.declared.tree.Expr.{Expr}
use Rattle.qil_tree.specs.declared.tree.Expr.TheVariants as exprs
use Rattle.qil_tree.specs.declared.tree.CallResult.{CallResult}
use Rattle.qil_tree.specs.declared.tree.Argument.{Argument}
use Rattle.qil_tree.specs.declared.tree.Inst.{Inst}
use Rattle.qil_tree.specs.declared.tree.InstKind.{InstKind}
use Rattle.qil_tree.specs.declared.tree.InstKind.TheVariants as inst_kinds
use Rattle.qil_tree.specs.declared.tree.PhiSource.{PhiSource}
use Rattle.qil_tree.specs.declared.tree.Phi.{Phi}
use Rattle.qil_tree.specs.declared.tree.Jump.{Jump}
use Rattle.qil_tree.specs.declared.tree.JumpKind.{JumpKind}
use Rattle.qil_tree.specs.declared.tree.JumpKind.TheVariants as jump_kinds

-- ---- tokens and the space before them

-- a token, and what stands between it and the token before
pub record Written : Type 0 where
  pub gap : List ℕ
  pub kind : TokenKind
  pub bytes : List ℕ

abbrev pub tight : TokenKind → List ℕ → Written
tight kind bytes = record { gap = []; kind = kind; bytes = bytes }

abbrev pub spaced : TokenKind → List ℕ → Written
spaced kind bytes = record { gap = codes " "; kind = kind; bytes = bytes }

abbrev pub written : Written → List ℕ
written w = w.gap ++ w.bytes

abbrev pub text_of : List Written → List ℕ
text_of ws = flat_map written ws

-- ---- words

abbrev pub class_name : Class → List ℕ
class_name classes.W = codes "w"
class_name classes.L = codes "l"

abbrev pub type_name : AbiType → List ℕ
type_name types.W = codes "w"
type_name types.L = codes "l"
type_name types.Sb = codes "sb"
type_name types.Ub = codes "ub"
type_name types.Sh = codes "sh"
type_name types.Uh = codes "uh"

abbrev pub unary_name : UnaryOp → List ℕ
unary_name unary_ops.Copy = codes "copy"
unary_name unary_ops.Neg = codes "neg"

abbrev pub binary_name : BinaryOp → List ℕ
binary_name binary_ops.Add = codes "add"
binary_name binary_ops.Sub = codes "sub"
binary_name binary_ops.Mul = codes "mul"
binary_name binary_ops.Div = codes "div"
binary_name binary_ops.Rem = codes "rem"
binary_name binary_ops.Udiv = codes "udiv"
binary_name binary_ops.Urem = codes "urem"
binary_name binary_ops.And = codes "and"
binary_name binary_ops.Or = codes "or"
binary_name binary_ops.Xor = codes "xor"
binary_name binary_ops.Sar = codes "sar"
binary_name binary_ops.Shr = codes "shr"
binary_name binary_ops.Shl = codes "shl"

-- without the class at its end
abbrev pub compare_name : CompareOp → List ℕ
compare_name compare_ops.Eq = codes "ceq"
compare_name compare_ops.Ne = codes "cne"
compare_name compare_ops.Sle = codes "csle"
compare_name compare_ops.Slt = codes "cslt"
compare_name compare_ops.Sge = codes "csge"
compare_name compare_ops.Sgt = codes "csgt"
compare_name compare_ops.Ule = codes "cule"
compare_name compare_ops.Ult = codes "cult"
compare_name compare_ops.Uge = codes "cuge"
compare_name compare_ops.Ugt = codes "cugt"

abbrev pub extension_name : Extension → List ℕ
extension_name extensions.Sw = codes "extsw"
extension_name extensions.Uw = codes "extuw"
extension_name extensions.Sh = codes "extsh"
extension_name extensions.Uh = codes "extuh"
extension_name extensions.Sb = codes "extsb"
extension_name extensions.Ub = codes "extub"

abbrev pub load_name : LoadOp → List ℕ
load_name load_ops.L = codes "loadl"
load_name load_ops.Sw = codes "loadsw"
load_name load_ops.Uw = codes "loaduw"
load_name load_ops.Sh = codes "loadsh"
load_name load_ops.Uh = codes "loaduh"
load_name load_ops.Sb = codes "loadsb"
load_name load_ops.Ub = codes "loadub"

abbrev pub alloc_name : AllocOp → List ℕ
alloc_name alloc_ops.Four = codes "alloc4"
alloc_name alloc_ops.Eight = codes "alloc8"
alloc_name alloc_ops.Sixteen = codes "alloc16"

abbrev pub store_name : Width → List ℕ
store_name widths.B = codes "storeb"
store_name widths.H = codes "storeh"
store_name widths.W = codes "storew"
store_name widths.L = codes "storel"

-- ---- values and targets

abbrev pub operand_kind : Operand → TokenKind
operand_kind (operands.Number n) = kinds.Number
operand_kind (operands.Global name) = kinds.Global
operand_kind (operands.Temp name) = kinds.Temp

abbrev pub operand_bytes : Operand → List ℕ
operand_bytes (operands.Number n) = decimal n
operand_bytes (operands.Global name) = codes "$" ++ name
operand_bytes (operands.Temp name) = codes "%" ++ name

abbrev pub a_value : Operand → Written
a_value o = spaced (operand_kind o) (operand_bytes o)

abbrev pub a_label : List ℕ → Written
a_label name = spaced kinds.Label (codes "@" ++ name)

abbrev pub comma : Written
comma = tight kinds.Comma (codes ",")

-- a name, " =", and its class or type
abbrev pub target_words : List ℕ → List ℕ → List Written
target_words name class = tight kinds.Temp (codes "%" ++ name) ∷ spaced kinds.Equals (codes "=") ∷ tight kinds.Word class ∷ []

-- an operation's name and one value, or two
abbrev pub one_value : List ℕ → Operand → List Written
one_value name a = spaced kinds.Word name ∷ a_value a ∷ []

abbrev pub two_values : List ℕ → Operand → Operand → List Written
two_values name a b = spaced kinds.Word name ∷ a_value a ∷ comma ∷ a_value b ∷ []

-- ---- instructions

abbrev pub expr_words : Expr → List Written
expr_words (exprs.Unary op a) = one_value (unary_name op) a
expr_words (exprs.Binary op a b) = two_values (binary_name op) a b
expr_words (exprs.Compare op class a b) = two_values (compare_name op ++ class_name class) a b
expr_words (exprs.Extend op a) = one_value (extension_name op) a
expr_words (exprs.Load op a) = one_value (load_name op) a

abbrev pub argument_words : Argument → List Written
argument_words a = tight kinds.Word (type_name a.abi_type) ∷ a_value a.value ∷ []

abbrev pub more_argument_words : Argument → List Written
more_argument_words a = comma ∷ spaced kinds.Word (type_name a.abi_type) ∷ a_value a.value ∷ []

abbrev pub arguments_words : List Argument → List Written
arguments_words [] = []
arguments_words (a ∷ others) = argument_words a ++ flat_map more_argument_words others

-- "call" and what is called, up to the bracket
abbrev pub call_words : Option CallResult → Operand → List Written
call_words None callee = tight kinds.Word (codes "call") ∷ a_value callee ∷ tight kinds.OpenParen (codes "(") ∷ []
call_words (Some r) callee = target_words r.name (type_name r.abi_type) ++ (spaced kinds.Word (codes "call") ∷ a_value callee ∷ tight kinds.OpenParen (codes "(") ∷ [])

abbrev pub close_paren : Written
close_paren = tight kinds.CloseParen (codes ")")

abbrev pub kind_words : {A : Type 0} → InstKind A → List Written
kind_words (inst_kinds.Assign t e) = target_words t.name (class_name t.class) ++ expr_words e
kind_words (inst_kinds.Alloc t op size) = target_words t.name (class_name t.class) ++ one_value (alloc_name op) size
kind_words (inst_kinds.Store width value to) = tight kinds.Word (store_name width) ∷ a_value value ∷ comma ∷ a_value to ∷ []
kind_words (inst_kinds.Blit from to count) = tight kinds.Word (codes "blit") ∷ a_value from ∷ comma ∷ a_value to ∷ comma ∷ spaced kinds.Number (decimal count) ∷ []
kind_words (inst_kinds.Call result callee arguments) = call_words result callee ++ (arguments_words arguments ++ close_paren ∷ [])

abbrev pub inst_words : {A : Type 0} → Inst A → List Written
inst_words i = kind_words i.kind

-- ---- phis and jumps

abbrev pub source_words : PhiSource → List Written
source_words s = a_label s.label ∷ a_value s.value ∷ []

abbrev pub more_source_words : PhiSource → List Written
more_source_words s = comma ∷ source_words s

abbrev pub sources_words : List PhiSource → List Written
sources_words [] = []
sources_words (s ∷ others) = source_words s ++ flat_map more_source_words others

-- a phi up to its sources
abbrev pub phi_start : Target → List Written
phi_start t = target_words t.name (class_name t.class) ++ spaced kinds.Word (codes "phi") ∷ []

abbrev pub phi_words : {A : Type 0} → Phi A → List Written
phi_words p = phi_start p.target ++ sources_words p.sources

abbrev pub going_words : JumpKind → List Written
going_words (jump_kinds.Jmp to) = tight kinds.Word (codes "jmp") ∷ a_label to ∷ []
going_words (jump_kinds.Jnz value if_set if_zero) = tight kinds.Word (codes "jnz") ∷ a_value value ∷ comma ∷ a_label if_set ∷ comma ∷ a_label if_zero ∷ []
going_words (jump_kinds.Ret None) = tight kinds.Word (codes "ret") ∷ []
going_words (jump_kinds.Ret (Some value)) = tight kinds.Word (codes "ret") ∷ a_value value ∷ []
going_words jump_kinds.Hlt = tight kinds.Word (codes "hlt") ∷ []

abbrev pub jump_words : Jump → List Written
jump_words j = going_words j.kind

-- ---- texts

abbrev pub inst_text : {A : Type 0} → Inst A → List ℕ
inst_text i = text_of (inst_words i)

abbrev pub phi_text : {A : Type 0} → Phi A → List ℕ
phi_text p = text_of (phi_words p)

abbrev pub jump_text : Jump → List ℕ
jump_text j = text_of (jump_words j)
