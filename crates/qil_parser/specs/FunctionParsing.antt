-- The grammar of functions read from left to right, production by production.
use Rattle.std.specs.Prelude.{ℕ, zero, suc, List, [], ◌∷◌, length, drop, Option, None}
use Rattle.qil_language.specs.Reading.{Read, got, one, nothing, seq, image, either, many, flagged, cons_of}
use Rattle.qil_parser.specs.declared.terminal.Terminal.TheVariants as terminals
use Rattle.qil_tree.specs.declared.ops.Class.{Class}
use Rattle.qil_tree.specs.declared.ops.Class.TheVariants as class_names
use Rattle.qil_tree.specs.declared.ops.AbiType.{AbiType}
use Rattle.qil_tree.specs.declared.ops.UnaryOp.{UnaryOp}
use Rattle.qil_tree.specs.declared.ops.UnaryOp.TheVariants as unary_ops
use Rattle.qil_tree.specs.declared.ops.BinaryOp.{BinaryOp}
use Rattle.qil_tree.specs.declared.ops.BinaryOp.TheVariants as binary_ops
use Rattle.qil_tree.specs.declared.ops.CompareOp.{CompareOp}
use Rattle.qil_tree.specs.declared.ops.CompareOp.TheVariants as compare_ops
use Rattle.qil_tree.specs.declared.ops.Extension.{Extension}
use Rattle.qil_tree.specs.declared.ops.Extension.TheVariants as extension_ops
use Rattle.qil_tree.specs.declared.ops.LoadOp.{LoadOp}
use Rattle.qil_tree.specs.declared.ops.LoadOp.TheVariants as load_ops
use Rattle.qil_tree.specs.declared.ops.AllocOp.{AllocOp}
use Rattle.qil_tree.specs.declared.ops.AllocOp.TheVariants as alloc_ops
use Rattle.qil_tree.specs.declared.ops.Width.{Width}
use Rattle.qil_tree.specs.declared.ops.Width.TheVariants as widths
use Rattle.qil_tree.specs.declared.tree.Operand.{Operand}
use Rattle.qil_tree.specs.declared.tree.Argument.{Argument}
use Rattle.qil_tree.specs.declared.tree.Expr.{Expr}
use Rattle.qil_tree.specs.declared.tree.Inst.{Inst}
use Rattle.qil_tree.specs.declared.tree.PhiSource.{PhiSource}
use Rattle.qil_tree.specs.declared.tree.Phi.{Phi}
use Rattle.qil_tree.specs.declared.tree.Jump.{Jump}
use Rattle.qil_tree.specs.declared.tree.Block.{Block}
use Rattle.qil_tree.specs.declared.tree.Param.{Param}
use Rattle.qil_tree.specs.declared.tree.Func.{Func}
use Rattle.qil_parser.specs.Token.{Tok, terminal, code, index}
use Rattle.qil_parser.specs.Grammar.{list_of}
use Rattle.qil_tree.specs.Types.{type_of}
use Rattle.qil_parser.specs.Functions.{unary_at, binary_at, compare_at, extend_at, load_at, alloc_at, store_at, target_of, result_of, unary_of, binary_of, compare_of, extend_of, load_of, argument_of, assign_of, alloc_of, call_of, plain_call_of, store_of, blit_of, source_of, phi_of, Prefix, jmp_of, jnz_of, ret_of, hlt_of, block_of, jump_or, param_of, func_of}
use Rattle.qil_parser.specs.Parsing.{the, classes, types, values, word_line, temp_name, label_name, global_name, class_word, sub_word, type_word, val, count, two, after, before, perhaps, listed, line}

-- ---- marks that begin a phrase; any mark of a shape represents all of it

abbrev pub unaries : List ℕ
unaries = the (terminals.Unary unary_ops.Copy)

abbrev pub binaries : List ℕ
binaries = the (terminals.Binary binary_ops.Add)

abbrev pub compares : List ℕ
compares = the (terminals.Compare compare_ops.Eq class_names.W)

abbrev pub extends : List ℕ
extends = the (terminals.Extend extension_ops.Sw)

abbrev pub loads : List ℕ
loads = the (terminals.Load load_ops.L)

abbrev pub allocs : List ℕ
allocs = the (terminals.Alloc alloc_ops.Four)

abbrev pub stores : List ℕ
stores = the (terminals.Store widths.B)

abbrev pub exprs : List ℕ
exprs = code (terminals.Unary unary_ops.Copy) ∷ code (terminals.Binary binary_ops.Add) ∷ code (terminals.Compare compare_ops.Eq class_names.W) ∷ code (terminals.Extend extension_ops.Sw) ∷ loads

abbrev pub plain_starts : List ℕ
plain_starts = code (terminals.Store widths.B) ∷ code terminals.Blit ∷ code terminals.Call ∷ []

abbrev pub inst_starts : List ℕ
inst_starts = code terminals.Temp ∷ plain_starts

abbrev pub jump_starts : List ℕ
jump_starts = code terminals.Jmp ∷ code terminals.Jnz ∷ code terminals.Ret ∷ code terminals.Hlt ∷ []

-- ---- words of operations

abbrev pub unary_word : List Tok → Read Tok UnaryOp
unary_word = one (λ t. unary_at (terminal t))

abbrev pub binary_word : List Tok → Read Tok BinaryOp
binary_word = one (λ t. binary_at (terminal t))

abbrev pub compare_word : List Tok → Read Tok (CompareOp × Class)
compare_word = one (λ t. compare_at (terminal t))

abbrev pub extend_word : List Tok → Read Tok Extension
extend_word = one (λ t. extend_at (terminal t))

abbrev pub load_word : List Tok → Read Tok LoadOp
load_word = one (λ t. load_at (terminal t))

abbrev pub alloc_word : List Tok → Read Tok AllocOp
alloc_word = one (λ t. alloc_at (terminal t))

abbrev pub store_word : List Tok → Read Tok (ℕ × Width)
store_word = one (λ t. store_at (terminal t) t.line)

-- ---- instructions

unfoldable pub dest : List Tok → Read Tok (ℕ × List ℕ)
dest = before temp_name terminals.Equals

unfoldable pub extend_or_load : List Tok → Read Tok Expr
extend_or_load = either index extends (image extend_of (seq extend_word val)) (image load_of (seq load_word val))

unfoldable pub expr : List Tok → Read Tok Expr
expr = either index unaries (image unary_of (seq unary_word val))
    (either index binaries (image binary_of (seq binary_word two))
    (either index compares (image compare_of (seq compare_word two)) extend_or_load))

unfoldable pub argument : List Tok → Read Tok Argument
argument = image argument_of (seq type_word val)

unfoldable pub arguments : List Tok → Read Tok (List Argument)
arguments = listed types argument

unfoldable pub callee : List Tok → Read Tok (Operand × List Argument)
callee = seq val (after terminals.OpenParen (before arguments terminals.CloseParen))

unfoldable pub called : List Tok → Read Tok (Operand × List Argument)
called = after terminals.Call callee

abbrev pub store : {A : Type 0} → List Tok → Read Tok (Inst A)
store = image store_of (seq store_word two)

abbrev pub blit : {A : Type 0} → List Tok → Read Tok (Inst A)
blit = image blit_of (seq (word_line terminals.Blit) (seq (before two terminals.Comma) count))

abbrev pub plain_call : {A : Type 0} → List Tok → Read Tok (Inst A)
plain_call = image plain_call_of (seq (word_line terminals.Call) callee)

unfoldable pub plain : {A : Type 0} → List Tok → Read Tok (Inst A)
plain = either index stores store (either index (the terminals.Blit) blit plain_call)

-- after the destination and a class: what depends on both
abbrev pub expr_for : {A : Type 0} → Expr → Class → ℕ × List ℕ → Inst A
expr_for value class to = assign_of (target_of (to, class), value)

abbrev pub alloc_for : {A : Type 0} → AllocOp × Operand → Class → ℕ × List ℕ → Inst A
alloc_for value class to = alloc_of (target_of (to, class), value)

abbrev pub call_for : {A : Type 0} → Operand × List Argument → Class → ℕ × List ℕ → Inst A
call_for value class to = call_of (result_of (to, type_of class), value)

unfoldable pub of_class : {A : Type 0} → List Tok → Read Tok (Class → ℕ × List ℕ → Inst A)
of_class = either index exprs (image expr_for expr) (either index allocs (image alloc_for (seq alloc_word val)) (image call_for called))

-- after the destination: a part of a word takes only what a call gives
abbrev pub sub_for : {A : Type 0} → AbiType × (Operand × List Argument) → ℕ × List ℕ → Inst A
sub_for value to = call_of (result_of (to, value.0), value.1)

unfoldable pub of_sub : {A : Type 0} → List Tok → Read Tok (ℕ × List ℕ → Inst A)
of_sub = image sub_for (seq sub_word called)

abbrev pub with_class : {A : Type 0} → Class × (Class → ℕ × List ℕ → Inst A) → ℕ × List ℕ → Inst A
with_class v = v.1 v.0

unfoldable pub of_dest : {A : Type 0} → List Tok → Read Tok (ℕ × List ℕ → Inst A)
of_dest = either index classes (image with_class (seq class_word of_class)) of_sub

abbrev pub made_of : {A : Type 0} → (ℕ × List ℕ) × (ℕ × List ℕ → Inst A) → Inst A
made_of v = v.1 v.0

unfoldable pub inst : {A : Type 0} → List Tok → Read Tok (Inst A)
inst = either index (the terminals.Temp) (image made_of (seq dest of_dest)) plain

unfoldable pub lines : {A : Type 0} → List Tok → Read Tok (List (Inst A))
lines = many index inst_starts (before inst terminals.Newline)

-- ---- phis, and then instructions

unfoldable pub source : List Tok → Read Tok PhiSource
source = image source_of (seq label_name val)

unfoldable pub more_sources : List Tok → Read Tok (List PhiSource)
more_sources = many index (the terminals.Comma) (after terminals.Comma source)

unfoldable pub sources : List Tok → Read Tok (List PhiSource)
sources = after terminals.Phi (image list_of (seq source more_sources))

abbrev pub Lines : Type 0 → Type 0
Lines A = List (Phi A) × List (Inst A)

-- after a destination and a class: sources and what else stands in the body, or an instruction and others
abbrev pub phi_more : {A : Type 0} → List PhiSource × Lines A → Class → ℕ × List ℕ → Lines A
phi_more v class to = (phi_of (target_of (to, class), v.0) ∷ v.1.0, v.1.1)

abbrev pub class_more : {A : Type 0} → (Class → ℕ × List ℕ → Inst A) × List (Inst A) → Class → ℕ × List ℕ → Lines A
class_more v class to = ([], v.0 class to ∷ v.1)

abbrev pub in_class : {A : Type 0} → Class × (Class → ℕ × List ℕ → Lines A) → ℕ × List ℕ → Lines A
in_class v = v.1 v.0

abbrev pub sub_more : {A : Type 0} → (ℕ × List ℕ → Inst A) × List (Inst A) → ℕ × List ℕ → Lines A
sub_more v to = ([], v.0 to ∷ v.1)

abbrev pub with_dest : {A : Type 0} → (ℕ × List ℕ) × (ℕ × List ℕ → Lines A) → Lines A
with_dest v = v.1 v.0

abbrev pub insts_alone : {A : Type 0} → Inst A × List (Inst A) → Lines A
insts_alone v = ([], v.0 ∷ v.1)

abbrev pub after_class : {A : Type 0} → (List Tok → Read Tok (Lines A)) → List Tok → Read Tok (Class → ℕ × List ℕ → Lines A)
after_class s = either index (the terminals.Phi) (image phi_more (seq (before sources terminals.Newline) s)) (image class_more (seq (before of_class terminals.Newline) lines))

abbrev pub after_dest : {A : Type 0} → (List Tok → Read Tok (Lines A)) → List Tok → Read Tok (ℕ × List ℕ → Lines A)
after_dest s = either index classes (image in_class (seq class_word (after_class s))) (image sub_more (seq (before of_sub terminals.Newline) lines))

abbrev pub no_dest : {A : Type 0} → List Tok → Read Tok (Lines A)
no_dest = either index plain_starts (image insts_alone (seq (before plain terminals.Newline) lines)) (nothing ([], []))

abbrev pub body_then : {A : Type 0} → (List Tok → Read Tok (Lines A)) → List Tok → Read Tok (Lines A)
body_then s = either index (the terminals.Temp) (image with_dest (seq dest (after_dest s))) no_dest

abbrev pub body_at : {A : Type 0} → ℕ → List Tok → Read Tok (Lines A)
body_at zero ts = got ([], []) ts
body_at (suc n) ts = body_then (body_at n) ts

-- told apart after the destination and its class
unfoldable pub body : {A : Type 0} → List Tok → Read Tok (Lines A)
body ts = body_at (length ts) ts

-- instructions from the one for this destination on, of this class or of a part of a word, and from a plain one on
abbrev pub class_lines : {A : Type 0} → ℕ × List ℕ → Class → List Tok → Read Tok (List (Inst A))
class_lines to class = image (λ v. v.0 class to ∷ v.1) (seq (before of_class terminals.Newline) lines)

abbrev pub sub_lines : {A : Type 0} → ℕ × List ℕ → List Tok → Read Tok (List (Inst A))
sub_lines to = image (λ v. v.0 to ∷ v.1) (seq (before of_sub terminals.Newline) lines)

abbrev pub plain_lines : {A : Type 0} → List Tok → Read Tok (List (Inst A))
plain_lines = either index plain_starts (image cons_of (seq (before plain terminals.Newline) lines)) (nothing [])

-- ---- blocks

unfoldable pub head : {A : Type 0} → List Tok → Read Tok (Prefix A)
head = seq (before label_name terminals.Newline) body

unfoldable pub jnz : List Tok → Read Tok Jump
jnz = image jnz_of (seq (word_line terminals.Jnz) (seq (before val terminals.Comma) (seq (before label_name terminals.Comma) label_name)))

abbrev pub jmp : List Tok → Read Tok Jump
jmp = image jmp_of (seq (word_line terminals.Jmp) label_name)

abbrev pub ret : List Tok → Read Tok Jump
ret = image ret_of (seq (word_line terminals.Ret) (perhaps values val))

abbrev pub hlt : List Tok → Read Tok Jump
hlt = image hlt_of (word_line terminals.Hlt)

unfoldable pub jump : List Tok → Read Tok Jump
jump = either index (the terminals.Jmp) jmp (either index (the terminals.Jnz) jnz (either index (the terminals.Ret) ret hlt))

-- the line of the next token, and its text without the sigil
abbrev pub next_name : List Tok → ℕ × List ℕ
next_name [] = (0, [])
next_name (t ∷ ts) = (t.line, drop 1 t.text)

abbrev pub jump_line : List Tok → Read Tok Jump
jump_line = before jump terminals.Newline

-- the jump that is written, or one to the label that comes next; a failure is marked where neither comes
unfoldable pub ending : List Tok → Read Tok Jump
ending = either index jump_starts jump_line (flagged index (the terminals.Label) (λ ts. got (jump_or None (next_name ts)) ts))

unfoldable pub block : {A : Type 0} → List Tok → Read Tok (Block A)
block = image (λ v. block_of v.0 v.1) (seq head ending)

unfoldable pub more_blocks : {A : Type 0} → List Tok → Read Tok (List (Block A))
more_blocks = many index (the terminals.Label) block

unfoldable pub blocks : {A : Type 0} → List Tok → Read Tok (List (Block A))
blocks = image list_of (seq block more_blocks)

-- ---- functions

unfoldable pub param : List Tok → Read Tok Param
param = image param_of (seq type_word temp_name)

unfoldable pub params : List Tok → Read Tok (List Param)
params = listed types param

unfoldable pub all_params : List Tok → Read Tok (List Param)
all_params = after terminals.OpenParen (before params terminals.CloseParen)

unfoldable pub opening : List Tok → Read Tok (Unit {0})
opening = image (λ v. v.1) (seq line (after terminals.OpenBrace line))

unfoldable pub top : List Tok → Read Tok (Option AbiType × ((ℕ × List ℕ) × List Param))
top = after terminals.Function (seq (perhaps types type_word) (seq global_name (image (λ v. v.0) (seq all_params opening))))

unfoldable pub func : {A : Type 0} → List Tok → Read Tok (Func A)
func = image func_of (seq top (before blocks terminals.CloseBrace))
