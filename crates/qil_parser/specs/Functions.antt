-- The grammar of functions: which tokens spell which function.
use Rattle.std.specs.Prelude.{ℕ, List, [], ◌∷◌, Option, Some, None}
use Rattle.qil_language.specs.Language.{One, Seq, Image, Either, Many}
use Rattle.qil_parser.specs.declared.terminal.Terminal.{Terminal}
use Rattle.qil_parser.specs.declared.terminal.Terminal.TheVariants as terminals
use Rattle.qil_tree.specs.declared.ops.Class.{Class}
use Rattle.qil_tree.specs.declared.ops.AbiType.{AbiType}
use Rattle.qil_tree.specs.declared.ops.UnaryOp.{UnaryOp}
use Rattle.qil_tree.specs.declared.ops.BinaryOp.{BinaryOp}
use Rattle.qil_tree.specs.declared.ops.CompareOp.{CompareOp}
use Rattle.qil_tree.specs.declared.ops.Extension.{Extension}
use Rattle.qil_tree.specs.declared.ops.LoadOp.{LoadOp}
use Rattle.qil_tree.specs.declared.ops.AllocOp.{AllocOp}
use Rattle.qil_tree.specs.declared.ops.Width.{Width}
use Rattle.qil_tree.specs.declared.tree.Operand.{Operand}
use Rattle.qil_tree.specs.declared.tree.Target.{Target}
use Rattle.qil_tree.specs.declared.tree.CallResult.{CallResult}
use Rattle.qil_tree.specs.declared.tree.Argument.{Argument}
use Rattle.qil_tree.specs.declared.tree.Expr.{Expr}
use Rattle.qil_tree.specs.declared.tree.Expr.TheVariants as exprs
use Rattle.qil_tree.specs.declared.tree.Inst.{Inst}
use Rattle.qil_tree.specs.declared.tree.InstKind.TheVariants as inst_kinds
use Rattle.qil_tree.specs.declared.tree.PhiSource.{PhiSource}
use Rattle.qil_tree.specs.declared.tree.Phi.{Phi}
use Rattle.qil_tree.specs.declared.tree.Jump.{Jump}
use Rattle.qil_tree.specs.declared.tree.JumpKind.TheVariants as jump_kinds
use Rattle.qil_tree.specs.declared.tree.Block.{Block}
use Rattle.qil_tree.specs.declared.tree.Param.{Param}
use Rattle.qil_tree.specs.declared.tree.Func.{Func}
use Rattle.qil_parser.specs.Token.{Tok, terminal}
use Rattle.qil_parser.specs.Grammar.{WordLine, TempName, LabelName, GlobalName, ClassWord, TypeWord, Val, Count, Two, After, Before, Perhaps, list_of, Listed, Line}

-- ---- words of operations

abbrev pub unary_at : Terminal → Option UnaryOp
unary_at (terminals.Unary op) = Some op
unary_at _ = None

abbrev pub binary_at : Terminal → Option BinaryOp
binary_at (terminals.Binary op) = Some op
binary_at _ = None

abbrev pub compare_at : Terminal → Option (CompareOp × Class)
compare_at (terminals.Compare op class) = Some (op, class)
compare_at _ = None

abbrev pub extend_at : Terminal → Option Extension
extend_at (terminals.Extend op) = Some op
extend_at _ = None

abbrev pub load_at : Terminal → Option LoadOp
load_at (terminals.Load op) = Some op
load_at _ = None

abbrev pub alloc_at : Terminal → Option AllocOp
alloc_at (terminals.Alloc op) = Some op
alloc_at _ = None

abbrev pub store_at : Terminal → ℕ → Option (ℕ × Width)
store_at (terminals.Store width) line = Some (line, width)
store_at _ line = None

abbrev pub UnaryWord : List Tok → UnaryOp → Type 0
UnaryWord = One (λ t. unary_at (terminal t))

abbrev pub BinaryWord : List Tok → BinaryOp → Type 0
BinaryWord = One (λ t. binary_at (terminal t))

-- with the class of its operands
abbrev pub CompareWord : List Tok → CompareOp × Class → Type 0
CompareWord = One (λ t. compare_at (terminal t))

abbrev pub ExtendWord : List Tok → Extension → Type 0
ExtendWord = One (λ t. extend_at (terminal t))

abbrev pub LoadWord : List Tok → LoadOp → Type 0
LoadWord = One (λ t. load_at (terminal t))

abbrev pub AllocWord : List Tok → AllocOp → Type 0
AllocWord = One (λ t. alloc_at (terminal t))

-- with its line
abbrev pub StoreWord : List Tok → ℕ × Width → Type 0
StoreWord = One (λ t. store_at (terminal t) t.line)

-- ---- instructions

-- TEMP "="
abbrev pub Dest : List Tok → ℕ × List ℕ → Type 0
Dest = Before TempName terminals.Equals

abbrev pub target_of : (ℕ × List ℕ) × Class → ℕ × Target
target_of v = (v.0.0, record { name = v.0.1; class = v.1 })

-- TEMP "=" class
abbrev pub TargetOf : List Tok → ℕ × Target → Type 0
TargetOf = Image target_of (Seq Dest ClassWord)

abbrev pub result_of : (ℕ × List ℕ) × AbiType → ℕ × CallResult
result_of v = (v.0.0, record { name = v.0.1; abi_type = v.1 })

-- TEMP "=" type
abbrev pub ResultOf : List Tok → ℕ × CallResult → Type 0
ResultOf = Image result_of (Seq Dest TypeWord)

abbrev pub unary_of : UnaryOp × Operand → Expr
unary_of v = exprs.Unary v.0 v.1

abbrev pub binary_of : BinaryOp × (Operand × Operand) → Expr
binary_of v = exprs.Binary v.0 v.1.0 v.1.1

abbrev pub compare_of : (CompareOp × Class) × (Operand × Operand) → Expr
compare_of v = exprs.Compare v.0.0 v.0.1 v.1.0 v.1.1

abbrev pub extend_of : Extension × Operand → Expr
extend_of v = exprs.Extend v.0 v.1

abbrev pub load_of : LoadOp × Operand → Expr
load_of v = exprs.Load v.0 v.1

-- unary val  |  binary val "," val  |  comparison val "," val  |  extension val  |  load val
abbrev pub ExprOf : List Tok → Expr → Type 0
ExprOf = Either (Image unary_of (Seq UnaryWord Val))
    (Either (Image binary_of (Seq BinaryWord Two))
    (Either (Image compare_of (Seq CompareWord Two))
    (Either (Image extend_of (Seq ExtendWord Val)) (Image load_of (Seq LoadWord Val)))))

abbrev pub argument_of : AbiType × Operand → Argument
argument_of v = record { abi_type = v.0; value = v.1 }

-- type val
abbrev pub ArgumentOf : List Tok → Argument → Type 0
ArgumentOf = Image argument_of (Seq TypeWord Val)

-- val "(" ( type val ( "," type val )* ","? )? ")"
abbrev pub Callee : List Tok → Operand × List Argument → Type 0
Callee = Seq Val (After terminals.OpenParen (Before (Listed ArgumentOf) terminals.CloseParen))

abbrev pub assign_of : {A : Type 0} → (ℕ × Target) × Expr → Inst A
assign_of v = record { line = v.0.0; kind = inst_kinds.Assign v.0.1 v.1 }

abbrev pub alloc_of : {A : Type 0} → (ℕ × Target) × (AllocOp × Operand) → Inst A
alloc_of v = record { line = v.0.0; kind = inst_kinds.Alloc v.0.1 v.1.0 v.1.1 }

abbrev pub call_of : {A : Type 0} → (ℕ × CallResult) × (Operand × List Argument) → Inst A
call_of v = record { line = v.0.0; kind = inst_kinds.Call (Some v.0.1) v.1.0 v.1.1 }

abbrev pub plain_call_of : {A : Type 0} → ℕ × (Operand × List Argument) → Inst A
plain_call_of v = record { line = v.0; kind = inst_kinds.Call None v.1.0 v.1.1 }

abbrev pub store_of : {A : Type 0} → (ℕ × Width) × (Operand × Operand) → Inst A
store_of v = record { line = v.0.0; kind = inst_kinds.Store v.0.1 v.1.0 v.1.1 }

abbrev pub blit_of : {A : Type 0} → ℕ × ((Operand × Operand) × ℕ) → Inst A
blit_of v = record { line = v.0; kind = inst_kinds.Blit v.1.0.0 v.1.0.1 v.1.1 }

-- store val "," val  |  "blit" val "," val "," N  |  "call" callee
abbrev pub Plain : {A : Type 0} → List Tok → Inst A → Type 0
Plain = Either (Image store_of (Seq StoreWord Two))
    (Either (Image blit_of (Seq (WordLine terminals.Blit) (Seq (Before Two terminals.Comma) Count)))
    (Image plain_call_of (Seq (WordLine terminals.Call) Callee)))

-- TEMP "=" class expr  |  TEMP "=" class alloc val  |  TEMP "=" type "call" callee  |  plain
abbrev pub InstOf : {A : Type 0} → List Tok → Inst A → Type 0
InstOf = Either (Image assign_of (Seq TargetOf ExprOf))
    (Either (Image alloc_of (Seq TargetOf (Seq AllocWord Val)))
    (Either (Image call_of (Seq ResultOf (After terminals.Call Callee))) Plain))

-- ---- blocks

abbrev pub source_of : (ℕ × List ℕ) × Operand → PhiSource
source_of v = record { label = v.0.1; value = v.1 }

-- LABEL val
abbrev pub SourceOf : List Tok → PhiSource → Type 0
SourceOf = Image source_of (Seq LabelName Val)

-- "phi" LABEL val ( "," LABEL val )*
abbrev pub Sources : List Tok → List PhiSource → Type 0
Sources = After terminals.Phi (Image list_of (Seq SourceOf (Many (After terminals.Comma SourceOf))))

abbrev pub phi_of : {A : Type 0} → (ℕ × Target) × List PhiSource → Phi A
phi_of v = record { line = v.0.0; target = v.0.1; sources = v.1 }

-- TEMP "=" class "phi" LABEL val ( "," LABEL val )*
abbrev pub PhiOf : {A : Type 0} → List Tok → Phi A → Type 0
PhiOf = Image phi_of (Seq TargetOf Sources)

-- ( phi NL )* ( inst NL )*
abbrev pub Body : {A : Type 0} → List Tok → List (Phi A) × List (Inst A) → Type 0
Body = Seq (Many (Before PhiOf terminals.Newline)) (Many (Before InstOf terminals.Newline))

-- what a block begins with: its label, its phis and its instructions
abbrev pub Prefix : Type 0 → Type 0
Prefix A = (ℕ × List ℕ) × (List (Phi A) × List (Inst A))

-- LABEL NL ( phi NL )* ( inst NL )*
abbrev pub Head : {A : Type 0} → List Tok → Prefix A → Type 0
Head = Seq (Before LabelName terminals.Newline) Body

abbrev pub jmp_of : ℕ × (ℕ × List ℕ) → Jump
jmp_of v = record { line = v.0; kind = jump_kinds.Jmp v.1.1 }

abbrev pub jnz_of : ℕ × (Operand × ((ℕ × List ℕ) × (ℕ × List ℕ))) → Jump
jnz_of v = record { line = v.0; kind = jump_kinds.Jnz v.1.0 v.1.1.0.1 v.1.1.1.1 }

abbrev pub ret_of : ℕ × Option Operand → Jump
ret_of v = record { line = v.0; kind = jump_kinds.Ret v.1 }

abbrev pub hlt_of : ℕ → Jump
hlt_of line = record { line = line; kind = jump_kinds.Hlt }

-- "jmp" LABEL  |  "jnz" val "," LABEL "," LABEL  |  "ret" val?  |  "hlt"
abbrev pub JumpOf : List Tok → Jump → Type 0
JumpOf = Either (Image jmp_of (Seq (WordLine terminals.Jmp) LabelName))
    (Either (Image jnz_of (Seq (WordLine terminals.Jnz) (Seq (Before Val terminals.Comma) (Seq (Before LabelName terminals.Comma) LabelName))))
    (Either (Image ret_of (Seq (WordLine terminals.Ret) (Perhaps Val))) (Image hlt_of (WordLine terminals.Hlt))))

-- head ( jump NL )?
abbrev pub BlockOf : {A : Type 0} → List Tok → Prefix A × Option Jump → Type 0
BlockOf = Seq Head (Perhaps (Before JumpOf terminals.Newline))

-- head jump NL
abbrev pub LastBlock : {A : Type 0} → List Tok → Prefix A × Jump → Type 0
LastBlock = Seq Head (Before JumpOf terminals.Newline)

abbrev pub block_of : {A : Type 0} → Prefix A → Jump → Block A
block_of v jump = record { label = v.0.1; line = v.0.0; phis = v.1.0; insts = v.1.1; jump = jump }

-- the jump that is written, or one to the label that comes next
abbrev pub jump_or : Option Jump → ℕ × List ℕ → Jump
jump_or (Some jump) next = jump
jump_or None next = jmp_of (next.0, next)

abbrev pub first_label : {A : Type 0} → List (Prefix A × Option Jump) → Prefix A × Jump → ℕ × List ℕ
first_label [] last = last.0.0
first_label (v ∷ others) last = v.0.0

abbrev pub blocks_of : {A : Type 0} → List (Prefix A × Option Jump) → Prefix A × Jump → List (Block A)
blocks_of [] last = block_of last.0 last.1 ∷ []
blocks_of (v ∷ others) last = block_of v.0 (jump_or v.1 (first_label others last)) ∷ blocks_of others last

-- blocks, of which the last has a jump
abbrev pub Blocks : {A : Type 0} → List Tok → List (Block A) → Type 0
Blocks = Image (λ v. blocks_of v.0 v.1) (Seq (Many BlockOf) LastBlock)

-- ---- functions

abbrev pub param_of : AbiType × (ℕ × List ℕ) → Param
param_of v = record { abi_type = v.0; name = v.1.1 }

-- type TEMP
abbrev pub ParamOf : List Tok → Param → Type 0
ParamOf = Image param_of (Seq TypeWord TempName)

-- "(" ( type TEMP ( "," type TEMP )* ","? )? ")"
abbrev pub Params : List Tok → List Param → Type 0
Params = After terminals.OpenParen (Before (Listed ParamOf) terminals.CloseParen)

-- NL? "{" NL?
abbrev pub Opening : List Tok → Unit {0} → Type 0
Opening = Image (λ v. v.1) (Seq Line (After terminals.OpenBrace Line))

-- "function" type? GLOBAL params NL? "{" NL?
abbrev pub FuncTop : List Tok → Option AbiType × ((ℕ × List ℕ) × List Param) → Type 0
FuncTop = After terminals.Function (Seq (Perhaps TypeWord) (Seq GlobalName (Image (λ v. v.0) (Seq Params Opening))))

abbrev pub func_of : {A : Type 0} → (Option AbiType × ((ℕ × List ℕ) × List Param)) × List (Block A) → Func A
func_of v = record { returns = v.0.0; name = v.0.1.0.1; line = v.0.1.0.0; params = v.0.1.1; blocks = v.1 }

-- top blocks "}"
abbrev pub FuncOf : {A : Type 0} → List Tok → Func A → Type 0
FuncOf = Image func_of (Seq FuncTop (Before Blocks terminals.CloseBrace))
