-- The words of an instruction, a phi or a jump are spelled as it is, but for its line.
use Rattle.std.proofs.Common.{◌≡◌, ℕ, ◌<◌, ◌^◌, false, List, [], ◌∷◌, ◌++◌, Some, None, refl, ap}
use Rattle.std.specs.Prelude.{codes}
use Rattle.std.specs.List.{flat_map}
use Rattle.std.specs.Fmt as fmt
use Rattle.std.specs.Char.{is_ascii_digit}
use Rattle.std.proofs.lemmas.Fmt.{digits_decimal}
use Rattle.qil_lexer.specs.declared.token.TokenKind.TheVariants as kinds
use Rattle.qil_lexer.specs.Shape.{Are}
use Rattle.qil_parser.specs.declared.terminal.Terminal.{Terminal}
use Rattle.qil_parser.specs.declared.terminal.Terminal.TheVariants as terminals
use Rattle.qil_tree.specs.declared.ops.Class.{Class}
use Rattle.qil_tree.specs.declared.ops.Class.TheVariants as classes
use Rattle.qil_tree.specs.declared.ops.AbiType.{AbiType}
use Rattle.qil_tree.specs.declared.ops.AbiType.TheVariants as types
use Rattle.qil_tree.specs.declared.ops.Width.{Width}
use Rattle.qil_tree.specs.declared.ops.Width.TheVariants as widths
use Rattle.qil_tree.specs.declared.ops.UnaryOp.{UnaryOp}
use Rattle.qil_tree.specs.declared.ops.UnaryOp.TheVariants as unary_ops
use Rattle.qil_tree.specs.declared.ops.BinaryOp.{BinaryOp}
use Rattle.qil_tree.specs.declared.ops.BinaryOp.TheVariants as binary_ops
use Rattle.qil_tree.specs.declared.ops.CompareOp.{CompareOp}
use Rattle.qil_tree.specs.declared.ops.CompareOp.TheVariants as compare_ops
use Rattle.qil_tree.specs.declared.ops.Extension.{Extension}
use Rattle.qil_tree.specs.declared.ops.Extension.TheVariants as extensions
use Rattle.qil_tree.specs.declared.ops.LoadOp.{LoadOp}
use Rattle.qil_tree.specs.declared.ops.LoadOp.TheVariants as load_ops
use Rattle.qil_tree.specs.declared.ops.AllocOp.{AllocOp}
use Rattle.qil_tree.specs.declared.ops.AllocOp.TheVariants as alloc_ops
use Rattle.qil_tree.specs.declared.tree.Operand.{Operand}
use Rattle.qil_tree.specs.declared.tree.Operand.TheVariants as operands
use Rattle.qil_tree.specs.declared.tree.Target.{Target}
use Rattle.qil_tree.specs.declared.tree.Expr.{Expr}
use Rattle.qil_tree.specs.declared.tree.Expr.TheVariants as exprs
use Rattle.qil_tree.specs.declared.tree.CallResult.{CallResult}
use Rattle.qil_tree.specs.declared.tree.Argument.{Argument}
use Rattle.qil_tree.specs.declared.tree.Inst.{Inst}
use Rattle.qil_tree.specs.declared.tree.InstKind.{InstKind}
use Rattle.qil_tree.specs.declared.tree.InstKind.TheVariants as inst_kinds
use Rattle.qil_parser.specs.Words.{word_terminal}
use Rattle.qil_parser.specs.Token.{Tok, terminal, code}
use Rattle.qil_parser.specs.Grammar.{exactly, line_at, temp_at, label_at, class_at, sub_at, operand_at, is_signed, count_at, Word, WordLine, TempName, LabelName, ClassWord, TypeWord, Val, Count, Two, After, Before, list_of, Listed}
use Rattle.qil_tree.specs.Types.{type_of}
use Rattle.qil_parser.specs.Functions.{unary_at, binary_at, compare_at, extend_at, load_at, alloc_at, store_at, Dest, target_of, TargetOf, result_of, ResultOf, unary_of, binary_of, compare_of, extend_of, load_of, ExprOf, argument_of, ArgumentOf, Callee, assign_of, alloc_of, call_of, plain_call_of, store_of, blit_of, InstOf}
use Rattle.qil_printer.specs.Canonical.{Written, tight, spaced, class_name, type_name, unary_name, binary_name, compare_name, extension_name, load_name, alloc_name, store_name, a_value, a_label, comma, target_words, one_value, expr_words, argument_words, more_argument_words, arguments_words, close_paren, kind_words, inst_words}
use Rattle.qil_printer.proofs.CanonicalCuts.{own, differs, number_is}
use Rattle.qil_printer.proofs.Writes.{Writes, AllOf, tok_of, writes_one, writes_seq, writes_image, writes_left, writes_right, writes_nothing, writes_tail}
use Rattle.qil_printer.proofs.Writable.{GoodOperand, GoodExpr, GoodArgument, GoodKind}

-- ---- words and names

abbrev Any : {A : Type 0} → A → Type 0
Any v = Unit {0}

writes_word : (m : Terminal) (w : Written) → ((line : ℕ) → exactly m (tok_of w line) ≡ Some tt) → Writes (Word m) (w ∷ []) Any
writes_word m w e = writes_one (exactly m) w (λ line. tt) Any e (λ line. tt)

pub writes_word_line : (m : Terminal) (w : Written) → ((line : ℕ) → line_at (code (terminal (tok_of w line))) (code m) line ≡ Some line) → Writes (WordLine m) (w ∷ []) Any
writes_word_line m w e = writes_one (λ t. line_at (code (terminal t)) (code m) t.line) w (λ line. line) Any e (λ line. tt)

pub writes_before : {A : Type 0} {S : List Tok → A → Type 0} (m : Terminal) (xs : List Written) (w : Written) (Q : A → Type 0) → ((line : ℕ) → exactly m (tok_of w line) ≡ Some tt) → Writes S xs Q → Writes (Before S m) (xs ++ w ∷ []) Q
writes_before m xs w Q e f = writes_image (λ v. v.0) Q (writes_seq xs (w ∷ []) f (writes_word m w e)) (λ a q. q.0)

pub writes_after : {A : Type 0} {S : List Tok → A → Type 0} (m : Terminal) (w : Written) (ys : List Written) (Q : A → Type 0) → ((line : ℕ) → exactly m (tok_of w line) ≡ Some tt) → Writes S ys Q → Writes (After m S) (w ∷ ys) Q
writes_after m w ys Q e f = writes_image (λ v. v.1) Q (writes_seq (w ∷ []) ys (writes_word m w e) f) (λ a q. q.1)

writes_temp : (name : List ℕ) → Writes TempName (tight kinds.Temp (codes "%" ++ name) ∷ []) (λ v. v.1 ≡ name)
writes_temp name = writes_one (λ t. temp_at t.kind t.text t.line) (tight kinds.Temp (codes "%" ++ name)) (λ line. (line, name)) (λ v. v.1 ≡ name) (λ line. refl) (λ line. refl)

pub writes_label : (name : List ℕ) → Writes LabelName (a_label name ∷ []) (λ v. v.1 ≡ name)
writes_label name = writes_one (λ t. label_at t.kind t.text t.line) (a_label name) (λ line. (line, name)) (λ v. v.1 ≡ name) (λ line. refl) (λ line. refl)

abbrev pub a_word : List ℕ → List ℕ → Written
a_word gap bytes = record { gap = gap; kind = kinds.Word; bytes = bytes }

class_is : (c : Class) (line : ℕ) → class_at (terminal (tok_of (a_word [] (class_name c)) line)) ≡ Some c
unfolding word_terminal
class_is classes.W line = refl
class_is classes.L line = refl

writes_class : (gap : List ℕ) (c : Class) → Writes ClassWord (a_word gap (class_name c) ∷ []) (λ v. v ≡ c)
writes_class gap c = writes_one (λ t. class_at (terminal t)) (a_word gap (class_name c)) (λ line. c) (λ v. v ≡ c) (class_is c) (λ line. refl)

writes_sub : (gap bytes : List ℕ) (type : AbiType) → ((line : ℕ) → sub_at (terminal (tok_of (a_word [] bytes) line)) ≡ Some type) → Writes TypeWord (a_word gap bytes ∷ []) (λ v. v ≡ type)
writes_sub gap bytes type e = writes_right (writes_one (λ t. sub_at (terminal t)) (a_word gap bytes) (λ line. type) (λ v. v ≡ type) e (λ line. refl))

writes_type : (gap : List ℕ) (type : AbiType) → Writes TypeWord (a_word gap (type_name type) ∷ []) (λ v. v ≡ type)
unfolding word_terminal
writes_type gap types.W = writes_left (writes_image type_of (λ v. v ≡ types.W) (writes_class gap classes.W) (λ a q. ap type_of q))
writes_type gap types.L = writes_left (writes_image type_of (λ v. v ≡ types.L) (writes_class gap classes.L) (λ a q. ap type_of q))
writes_type gap types.Sb = writes_sub gap (codes "sb") types.Sb (λ line. refl)
writes_type gap types.Ub = writes_sub gap (codes "ub") types.Ub (λ line. refl)
writes_type gap types.Sh = writes_sub gap (codes "sh") types.Sh (λ line. refl)
writes_type gap types.Uh = writes_sub gap (codes "uh") types.Uh (λ line. refl)

pub writes_val : (o : Operand) → GoodOperand o → Writes Val (a_value o ∷ []) (λ v. v ≡ o)
writes_val (operands.Number n) good = writes_one (λ t. operand_at t.kind t.text) (a_value (operands.Number n)) (λ line. operands.Number n) (λ v. v ≡ operands.Number n) (λ line. ap (λ (k : ℕ). Some (operands.Number k)) (number_is n good).2) (λ line. refl)
writes_val (operands.Global name) good = writes_one (λ t. operand_at t.kind t.text) (a_value (operands.Global name)) (λ line. operands.Global name) (λ v. v ≡ operands.Global name) (λ line. refl) (λ line. refl)
writes_val (operands.Temp name) good = writes_one (λ t. operand_at t.kind t.text) (a_value (operands.Temp name)) (λ line. operands.Temp name) (λ v. v ≡ operands.Temp name) (λ line. refl) (λ line. refl)

unsigned : (ds : List ℕ) → Are is_ascii_digit ds → is_signed ds ≡ false
unsigned [] are = refl
unsigned (b ∷ ds) are = differs is_ascii_digit b 45 are.0 refl

count_is : (n : ℕ) → n < 2 ^ 64 → (line : ℕ) → count_at kinds.Number (fmt.decimal n) ≡ Some n
count_is n lt line = rw (unsigned (fmt.decimal n) (digits_decimal own n lt)) (ap (λ (k : ℕ). Some k) (number_is n lt).2)

writes_count : (n : ℕ) → n < 2 ^ 64 → Writes Count (spaced kinds.Number (fmt.decimal n) ∷ []) (λ v. v ≡ n)
writes_count n lt = writes_one (λ t. count_at t.kind t.text) (spaced kinds.Number (fmt.decimal n)) (λ line. n) (λ v. v ≡ n) (count_is n lt) (λ line. refl)

writes_comma : Writes (Word terminals.Comma) (comma ∷ []) Any
writes_comma = writes_word terminals.Comma comma (λ line. refl)

writes_two : (a b : Operand) → GoodOperand a → GoodOperand b → Writes Two (a_value a ∷ comma ∷ a_value b ∷ []) (λ v. (v.0 ≡ a) × (v.1 ≡ b))
writes_two a b x y = writes_seq (a_value a ∷ comma ∷ []) (a_value b ∷ []) (writes_before terminals.Comma (a_value a ∷ []) comma (λ v. v ≡ a) (λ line. refl) (writes_val a x)) (writes_val b y)

-- ---- operations

unary_is : (op : UnaryOp) (line : ℕ) → unary_at (terminal (tok_of (a_word [] (unary_name op)) line)) ≡ Some op
unfolding word_terminal
unary_is unary_ops.Copy line = refl
unary_is unary_ops.Neg line = refl

binary_is : (op : BinaryOp) (line : ℕ) → binary_at (terminal (tok_of (a_word [] (binary_name op)) line)) ≡ Some op
unfolding word_terminal
binary_is binary_ops.Add line = refl
binary_is binary_ops.Sub line = refl
binary_is binary_ops.Mul line = refl
binary_is binary_ops.Div line = refl
binary_is binary_ops.Rem line = refl
binary_is binary_ops.Udiv line = refl
binary_is binary_ops.Urem line = refl
binary_is binary_ops.And line = refl
binary_is binary_ops.Or line = refl
binary_is binary_ops.Xor line = refl
binary_is binary_ops.Sar line = refl
binary_is binary_ops.Shr line = refl
binary_is binary_ops.Shl line = refl

compare_is : (op : CompareOp) (c : Class) (line : ℕ) → compare_at (terminal (tok_of (a_word [] (compare_name op ++ class_name c)) line)) ≡ Some (op, c)
unfolding word_terminal
compare_is compare_ops.Eq classes.W line = refl
compare_is compare_ops.Ne classes.W line = refl
compare_is compare_ops.Sle classes.W line = refl
compare_is compare_ops.Slt classes.W line = refl
compare_is compare_ops.Sge classes.W line = refl
compare_is compare_ops.Sgt classes.W line = refl
compare_is compare_ops.Ule classes.W line = refl
compare_is compare_ops.Ult classes.W line = refl
compare_is compare_ops.Uge classes.W line = refl
compare_is compare_ops.Ugt classes.W line = refl
compare_is compare_ops.Eq classes.L line = refl
compare_is compare_ops.Ne classes.L line = refl
compare_is compare_ops.Sle classes.L line = refl
compare_is compare_ops.Slt classes.L line = refl
compare_is compare_ops.Sge classes.L line = refl
compare_is compare_ops.Sgt classes.L line = refl
compare_is compare_ops.Ule classes.L line = refl
compare_is compare_ops.Ult classes.L line = refl
compare_is compare_ops.Uge classes.L line = refl
compare_is compare_ops.Ugt classes.L line = refl

extend_is : (op : Extension) (line : ℕ) → extend_at (terminal (tok_of (a_word [] (extension_name op)) line)) ≡ Some op
unfolding word_terminal
extend_is extensions.Sw line = refl
extend_is extensions.Uw line = refl
extend_is extensions.Sh line = refl
extend_is extensions.Uh line = refl
extend_is extensions.Sb line = refl
extend_is extensions.Ub line = refl

load_is : (op : LoadOp) (line : ℕ) → load_at (terminal (tok_of (a_word [] (load_name op)) line)) ≡ Some op
unfolding word_terminal
load_is load_ops.L line = refl
load_is load_ops.Sw line = refl
load_is load_ops.Uw line = refl
load_is load_ops.Sh line = refl
load_is load_ops.Uh line = refl
load_is load_ops.Sb line = refl
load_is load_ops.Ub line = refl

alloc_is : (op : AllocOp) (line : ℕ) → alloc_at (terminal (tok_of (a_word [] (alloc_name op)) line)) ≡ Some op
unfolding word_terminal
alloc_is alloc_ops.Four line = refl
alloc_is alloc_ops.Eight line = refl
alloc_is alloc_ops.Sixteen line = refl

store_is : (w : Width) (line : ℕ) → store_at (terminal (tok_of (a_word [] (store_name w)) line)) line ≡ Some (line, w)
unfolding word_terminal
store_is widths.B line = refl
store_is widths.H line = refl
store_is widths.W line = refl
store_is widths.L line = refl

writes_expr : (e : Expr) → GoodExpr e → Writes ExprOf (expr_words e) (λ v. v ≡ e)
writes_expr (exprs.Unary op a) good =
    writes_left (writes_image unary_of (λ v. v ≡ exprs.Unary op a)
    (writes_seq (spaced kinds.Word (unary_name op) ∷ []) (a_value a ∷ []) (writes_one (λ t. unary_at (terminal t)) (spaced kinds.Word (unary_name op)) (λ line. op) (λ v. v ≡ op) (unary_is op) (λ line. refl)) (writes_val a good))
    (λ v q. λ i. exprs.Unary (q.0 i) (q.1 i)))
writes_expr (exprs.Binary op a b) good =
    writes_right (writes_left (writes_image binary_of (λ v. v ≡ exprs.Binary op a b)
    (writes_seq (spaced kinds.Word (binary_name op) ∷ []) (a_value a ∷ comma ∷ a_value b ∷ []) (writes_one (λ t. binary_at (terminal t)) (spaced kinds.Word (binary_name op)) (λ line. op) (λ v. v ≡ op) (binary_is op) (λ line. refl)) (writes_two a b good.0 good.1))
    (λ v q. λ i. exprs.Binary (q.0 i) (q.1.0 i) (q.1.1 i))))
writes_expr (exprs.Compare op c a b) good =
    writes_right (writes_right (writes_left (writes_image compare_of (λ v. v ≡ exprs.Compare op c a b)
    (writes_seq (spaced kinds.Word (compare_name op ++ class_name c) ∷ []) (a_value a ∷ comma ∷ a_value b ∷ []) (writes_one (λ t. compare_at (terminal t)) (spaced kinds.Word (compare_name op ++ class_name c)) (λ line. (op, c)) (λ v. v ≡ (op, c)) (compare_is op c) (λ line. refl)) (writes_two a b good.0 good.1))
    (λ v q. λ i. exprs.Compare (q.0 i).0 (q.0 i).1 (q.1.0 i) (q.1.1 i)))))
writes_expr (exprs.Extend op a) good =
    writes_right (writes_right (writes_right (writes_left (writes_image extend_of (λ v. v ≡ exprs.Extend op a)
    (writes_seq (spaced kinds.Word (extension_name op) ∷ []) (a_value a ∷ []) (writes_one (λ t. extend_at (terminal t)) (spaced kinds.Word (extension_name op)) (λ line. op) (λ v. v ≡ op) (extend_is op) (λ line. refl)) (writes_val a good))
    (λ v q. λ i. exprs.Extend (q.0 i) (q.1 i))))))
writes_expr (exprs.Load op a) good =
    writes_right (writes_right (writes_right (writes_right (writes_image load_of (λ v. v ≡ exprs.Load op a)
    (writes_seq (spaced kinds.Word (load_name op) ∷ []) (a_value a ∷ []) (writes_one (λ t. load_at (terminal t)) (spaced kinds.Word (load_name op)) (λ line. op) (λ v. v ≡ op) (load_is op) (λ line. refl)) (writes_val a good))
    (λ v q. λ i. exprs.Load (q.0 i) (q.1 i))))))

-- ---- targets

abbrev dest_words : List ℕ → List Written
dest_words name = tight kinds.Temp (codes "%" ++ name) ∷ spaced kinds.Equals (codes "=") ∷ []

writes_dest : (name : List ℕ) → Writes Dest (dest_words name) (λ v. v.1 ≡ name)
writes_dest name = writes_before terminals.Equals (tight kinds.Temp (codes "%" ++ name) ∷ []) (spaced kinds.Equals (codes "=")) (λ v. v.1 ≡ name) (λ line. refl) (writes_temp name)

pub writes_target : (t : Target) → Writes TargetOf (target_words t.name (class_name t.class)) (λ v. v.1 ≡ t)
writes_target t = writes_image target_of (λ v. v.1 ≡ t) (writes_seq (dest_words t.name) (tight kinds.Word (class_name t.class) ∷ []) (writes_dest t.name) (writes_class [] t.class)) (λ v q. λ i. record { name = q.0 i; class = q.1 i })

writes_result : (r : CallResult) → Writes ResultOf (target_words r.name (type_name r.abi_type)) (λ v. v.1 ≡ r)
writes_result r = writes_image result_of (λ v. v.1 ≡ r) (writes_seq (dest_words r.name) (tight kinds.Word (type_name r.abi_type) ∷ []) (writes_dest r.name) (writes_type [] r.abi_type)) (λ v q. λ i. record { name = q.0 i; abi_type = q.1 i })

-- ---- calls

writes_argument : (gap : List ℕ) (a : Argument) → GoodArgument a → Writes ArgumentOf (a_word gap (type_name a.abi_type) ∷ a_value a.value ∷ []) (λ v. v ≡ a)
writes_argument gap a good = writes_image argument_of (λ v. v ≡ a) (writes_seq (a_word gap (type_name a.abi_type) ∷ []) (a_value a.value ∷ []) (writes_type gap a.abi_type) (writes_val a.value good)) (λ v q. λ i. record { abi_type = q.0 i; value = q.1 i })

writes_arguments : (all : List Argument) → AllOf GoodArgument all → Writes (Listed ArgumentOf) (arguments_words all) (λ v. v ≡ all)
writes_arguments [] good = writes_right (writes_nothing [] (λ v. v ≡ []) refl)
writes_arguments (a ∷ others) good =
    writes_left (writes_image list_of (λ v. v ≡ a ∷ others)
    (writes_seq (argument_words a) (flat_map more_argument_words others) (writes_argument [] a good.0) (writes_tail (Word terminals.Comma) ArgumentOf comma (λ x. spaced kinds.Word (type_name x.abi_type) ∷ a_value x.value ∷ []) others GoodArgument good.1 writes_comma (λ x g. writes_argument (codes " ") x g)))
    (λ v q. λ i. q.0 i ∷ q.1 i))

abbrev open_paren : Written
open_paren = tight kinds.OpenParen (codes "(")

writes_callee : (o : Operand) (all : List Argument) → GoodOperand o → AllOf GoodArgument all → Writes Callee (a_value o ∷ open_paren ∷ (arguments_words all ++ close_paren ∷ [])) (λ v. (v.0 ≡ o) × (v.1 ≡ all))
writes_callee o all good each =
    writes_seq (a_value o ∷ []) (open_paren ∷ (arguments_words all ++ close_paren ∷ [])) (writes_val o good)
    (writes_after terminals.OpenParen open_paren (arguments_words all ++ close_paren ∷ []) (λ v. v ≡ all) (λ line. refl)
    (writes_before terminals.CloseParen (arguments_words all) close_paren (λ v. v ≡ all) (λ line. refl) (writes_arguments all each)))

call_is : (line : ℕ) → exactly terminals.Call (tok_of (a_word [] (codes "call")) line) ≡ Some tt
unfolding word_terminal
call_is line = refl

call_line_is : (line : ℕ) → line_at (code (terminal (tok_of (a_word [] (codes "call")) line))) (code terminals.Call) line ≡ Some line
unfolding word_terminal
call_line_is line = refl

blit_is : (line : ℕ) → line_at (code (terminal (tok_of (a_word [] (codes "blit")) line))) (code terminals.Blit) line ≡ Some line
unfolding word_terminal
blit_is line = refl

-- ---- instructions

abbrev AsKind : {A : Type 0} → InstKind A → Inst A → Type 0
AsKind kind i = i.kind ≡ kind

writes_kind : {A : Type 0} (k : InstKind A) → GoodKind k → Writes InstOf (kind_words k) (AsKind k)
writes_kind (inst_kinds.Assign t e) good =
    writes_left (writes_image assign_of (AsKind (inst_kinds.Assign t e)) (writes_seq (target_words t.name (class_name t.class)) (expr_words e) (writes_target t) (writes_expr e good.1)) (λ v q. λ i. inst_kinds.Assign (q.0 i) (q.1 i)))
writes_kind (inst_kinds.Alloc t op size) good =
    writes_right (writes_left (writes_image alloc_of (AsKind (inst_kinds.Alloc t op size))
    (writes_seq (target_words t.name (class_name t.class)) (one_value (alloc_name op) size) (writes_target t)
    (writes_seq (spaced kinds.Word (alloc_name op) ∷ []) (a_value size ∷ []) (writes_one (λ t. alloc_at (terminal t)) (spaced kinds.Word (alloc_name op)) (λ line. op) (λ v. v ≡ op) (alloc_is op) (λ line. refl)) (writes_val size good.1)))
    (λ v q. λ i. inst_kinds.Alloc (q.0 i) (q.1.0 i) (q.1.1 i))))
writes_kind (inst_kinds.Store width value to) good =
    writes_right (writes_right (writes_right (writes_left (writes_image store_of (AsKind (inst_kinds.Store width value to))
    (writes_seq (tight kinds.Word (store_name width) ∷ []) (a_value value ∷ comma ∷ a_value to ∷ []) (writes_one (λ t. store_at (terminal t) t.line) (tight kinds.Word (store_name width)) (λ line. (line, width)) (λ v. v.1 ≡ width) (store_is width) (λ line. refl)) (writes_two value to good.0 good.1))
    (λ v q. λ i. inst_kinds.Store (q.0 i) (q.1.0 i) (q.1.1 i))))))
writes_kind (inst_kinds.Blit from to count) good =
    writes_right (writes_right (writes_right (writes_right (writes_left (writes_image blit_of (AsKind (inst_kinds.Blit from to count))
    (writes_seq (tight kinds.Word (codes "blit") ∷ []) (a_value from ∷ comma ∷ a_value to ∷ comma ∷ spaced kinds.Number (fmt.decimal count) ∷ []) (writes_word_line terminals.Blit (tight kinds.Word (codes "blit")) blit_is)
    (writes_seq (a_value from ∷ comma ∷ a_value to ∷ comma ∷ []) (spaced kinds.Number (fmt.decimal count) ∷ []) (writes_before terminals.Comma (a_value from ∷ comma ∷ a_value to ∷ []) comma (λ v. (v.0 ≡ from) × (v.1 ≡ to)) (λ line. refl) (writes_two from to good.0 good.1)) (writes_count count good.2)))
    (λ v q. λ i. inst_kinds.Blit (q.1.0.0 i) (q.1.0.1 i) (q.1.1 i)))))))
writes_kind (inst_kinds.Call None callee arguments) good =
    writes_right (writes_right (writes_right (writes_right (writes_right (writes_image plain_call_of (AsKind (inst_kinds.Call None callee arguments))
    (writes_seq (tight kinds.Word (codes "call") ∷ []) (a_value callee ∷ open_paren ∷ (arguments_words arguments ++ close_paren ∷ [])) (writes_word_line terminals.Call (tight kinds.Word (codes "call")) call_line_is) (writes_callee callee arguments good.1 good.2))
    (λ v q. λ i. inst_kinds.Call None (q.1.0 i) (q.1.1 i)))))))
writes_kind (inst_kinds.Call (Some r) callee arguments) good =
    writes_right (writes_right (writes_left (writes_image call_of (AsKind (inst_kinds.Call (Some r) callee arguments))
    (writes_seq (target_words r.name (type_name r.abi_type)) (spaced kinds.Word (codes "call") ∷ a_value callee ∷ open_paren ∷ (arguments_words arguments ++ close_paren ∷ [])) (writes_result r)
    (writes_after terminals.Call (spaced kinds.Word (codes "call")) (a_value callee ∷ open_paren ∷ (arguments_words arguments ++ close_paren ∷ [])) (λ v. (v.0 ≡ callee) × (v.1 ≡ arguments)) call_is (writes_callee callee arguments good.1 good.2)))
    (λ v q. λ i. inst_kinds.Call (Some (q.0 i)) (q.1.0 i) (q.1.1 i)))))

pub writes_inst : {A : Type 0} (i : Inst A) → GoodKind i.kind → Writes InstOf (inst_words i) (λ j. j.kind ≡ i.kind)
writes_inst i good = writes_kind i.kind good
