-- The words of a canonical text stand side by side without going on with each other.
use Rattle.std.proofs.Common.{◌≡◌, ℕ, ◌<◌, ◌^◌, Bool, true, false, ◌&&◌, List, [], ◌∷◌, ◌++◌, Some, None, refl, ◌⊎◌, inl, inr}
use Rattle.std.specs.Prelude.{codes}
use Rattle.std.specs.List.{flat_map}
use Rattle.std.specs.Fmt as fmt
use Rattle.std.specs.Char.{is_ascii_digit, is_ascii_alphabetic}
use Rattle.qil_lexer.specs.declared.token.TokenKind.TheVariants as kinds
use Rattle.qil_lexer.specs.Shape.{Are, begins, is_name_byte, is_word_byte, first_kind, IsName, HasShape}
use Rattle.qil_language.proofs.Law.{and_true}
use Rattle.qil_tree.specs.declared.ops.Class.{Class}
use Rattle.qil_tree.specs.declared.ops.Class.TheVariants as classes
use Rattle.qil_tree.specs.declared.ops.AbiType.{AbiType}
use Rattle.qil_tree.specs.declared.ops.AbiType.TheVariants as types
use Rattle.qil_tree.specs.declared.ops.Width.{Width}
use Rattle.qil_tree.specs.declared.ops.Width.TheVariants as widths
use Rattle.qil_tree.specs.declared.ops.UnaryOp.{UnaryOp}
use Rattle.qil_tree.specs.declared.ops.UnaryOp.TheVariants as unary_ops
use Rattle.qil_tree.specs.declared.ops.BinaryOp.{BinaryOp}
use Rattle.qil_tree.specs.declared.ops.BinaryOp.TheVariants as binary_ops
use Rattle.qil_tree.specs.declared.ops.CompareOp.{CompareOp}
use Rattle.qil_tree.specs.declared.ops.CompareOp.TheVariants as compare_ops
use Rattle.qil_tree.specs.declared.ops.Extension.{Extension}
use Rattle.qil_tree.specs.declared.ops.Extension.TheVariants as extensions
use Rattle.qil_tree.specs.declared.ops.LoadOp.{LoadOp}
use Rattle.qil_tree.specs.declared.ops.LoadOp.TheVariants as load_ops
use Rattle.qil_tree.specs.declared.ops.AllocOp.{AllocOp}
use Rattle.qil_tree.specs.declared.ops.AllocOp.TheVariants as alloc_ops
use Rattle.qil_tree.specs.declared.tree.Operand.{Operand}
use Rattle.qil_tree.specs.declared.tree.Operand.TheVariants as operands
use Rattle.qil_tree.specs.declared.tree.Expr.{Expr}
use Rattle.qil_tree.specs.declared.tree.Expr.TheVariants as exprs
use Rattle.qil_tree.specs.declared.tree.Argument.{Argument}
use Rattle.qil_tree.specs.declared.tree.InstKind.{InstKind}
use Rattle.qil_tree.specs.declared.tree.InstKind.TheVariants as inst_kinds
use Rattle.qil_tree.specs.declared.tree.PhiSource.{PhiSource}
use Rattle.qil_tree.specs.declared.tree.Phi.{Phi}
use Rattle.qil_tree.specs.declared.tree.JumpKind.{JumpKind}
use Rattle.qil_tree.specs.declared.tree.JumpKind.TheVariants as jump_kinds
use Rattle.qil_printer.specs.Canonical.{Written, tight, spaced, text_of, class_name, type_name, unary_name, binary_name, compare_name, extension_name, load_name, alloc_name, store_name, a_value, a_label, comma, target_words, one_value, two_values, expr_words, more_argument_words, arguments_words, close_paren, kind_words, more_source_words, sources_words, phi_words, going_words}
use Rattle.qil_printer.proofs.CanonicalCuts.{differs, number_is, Fine}
use Rattle.qil_printer.proofs.Writes.{AllOf}
use Rattle.qil_printer.proofs.Writable.{GoodOperand, GoodExpr, GoodArgument, GoodKind, GoodSource, GoodSources, GoodPhi, GoodJump}

-- ---- words

abbrev all_word : List ℕ → Bool
all_word [] = true
all_word (b ∷ bytes) = is_word_byte b && all_word bytes

abbrev is_word : List ℕ → Bool
is_word [] = false
is_word (b ∷ bytes) = is_ascii_alphabetic b && all_word bytes

word_are : (bytes : List ℕ) → all_word bytes ≡ true → Are is_word_byte bytes
word_are [] h = tt
word_are (b ∷ bytes) h = let k = and_true (is_word_byte b) (all_word bytes) h in (k.0, word_are bytes k.1)

letter_kind : (b : ℕ) → is_ascii_alphabetic b ≡ true → first_kind b ≡ Some kinds.Word
unfolding first_kind
letter_kind b h = rw (differs is_ascii_alphabetic b 36 h refl, differs is_ascii_alphabetic b 37 h refl, differs is_ascii_alphabetic b 64 h refl, differs is_ascii_alphabetic b 58 h refl, differs is_ascii_alphabetic b 34 h refl, differs is_ascii_alphabetic b 44 h refl, differs is_ascii_alphabetic b 61 h refl, differs is_ascii_alphabetic b 123 h refl, differs is_ascii_alphabetic b 125 h refl, differs is_ascii_alphabetic b 40 h refl, differs is_ascii_alphabetic b 41 h refl, differs is_ascii_alphabetic b 43 h refl, differs is_ascii_alphabetic b 46 h refl, differs is_ascii_alphabetic b 10 h refl, h) refl

word_shape : (bytes : List ℕ) → is_word bytes ≡ true → HasShape kinds.Word bytes
word_shape [] h = absurd cc
word_shape (b ∷ bytes) h = let k = and_true (is_ascii_alphabetic b) (all_word bytes) h in (letter_kind b k.0, word_are bytes k.1)

-- ---- what stands before other words

-- nothing of this goes on with a name, a word or a number
abbrev Apart : List Written → Type 0
Apart ws = (begins is_name_byte (text_of ws) ≡ false) × (begins is_word_byte (text_of ws) ≡ false) × (begins is_ascii_digit (text_of ws) ≡ false)

abbrev IsGap : List ℕ → Type 0
IsGap gap = (gap ≡ []) ⊎ (gap ≡ 32 ∷ [])

fits_word : (gap bytes : List ℕ) (ws : List Written) → IsGap gap → is_word bytes ≡ true → Apart ws → Fine ws → Fine (record { gap = gap; kind = kinds.Word; bytes = bytes } ∷ ws)
fits_word gap bytes ws g h a f = (record { shape = word_shape bytes h; in_range = λ e. absurd cc; gap = g }, a.1, f)

fits_temp : (name : List ℕ) (ws : List Written) → IsName name → Apart ws → Fine ws → Fine (tight kinds.Temp (codes "%" ++ name) ∷ ws)
unfolding first_kind
fits_temp name ws n a f = (record { shape = (refl, n); in_range = λ e. absurd cc; gap = inl refl }, a.0, f)

fits_label : (name : List ℕ) (ws : List Written) → IsName name → Apart ws → Fine ws → Fine (a_label name ∷ ws)
unfolding first_kind
fits_label name ws n a f = (record { shape = (refl, n); in_range = λ e. absurd cc; gap = inr refl }, a.0, f)

fits_number : (n : ℕ) (ws : List Written) → n < 2 ^ 64 → Apart ws → Fine ws → Fine (spaced kinds.Number (fmt.decimal n) ∷ ws)
fits_number n ws lt a f = let k = number_is n lt in (record { shape = k.0; in_range = λ e. k.1; gap = inr refl }, a.2, f)

fits_value : (o : Operand) (ws : List Written) → GoodOperand o → Apart ws → Fine ws → Fine (a_value o ∷ ws)
unfolding first_kind
fits_value (operands.Number n) ws good a f = fits_number n ws good a f
fits_value (operands.Global name) ws good a f = (record { shape = (refl, good); in_range = λ e. absurd cc; gap = inr refl }, a.0, f)
fits_value (operands.Temp name) ws good a f = (record { shape = (refl, good); in_range = λ e. absurd cc; gap = inr refl }, a.0, f)

fits_comma : (ws : List Written) → Fine ws → Fine (comma ∷ ws)
unfolding first_kind
fits_comma ws f = (record { shape = (refl, refl); in_range = λ e. absurd cc; gap = inl refl }, tt, f)

fits_equals : (ws : List Written) → Fine ws → Fine (spaced kinds.Equals (codes "=") ∷ ws)
unfolding first_kind
fits_equals ws f = (record { shape = (refl, refl); in_range = λ e. absurd cc; gap = inr refl }, tt, f)

fits_open : (ws : List Written) → Fine ws → Fine (tight kinds.OpenParen (codes "(") ∷ ws)
unfolding first_kind
fits_open ws f = (record { shape = (refl, refl); in_range = λ e. absurd cc; gap = inl refl }, tt, f)

fits_close : Fine (close_paren ∷ [])
unfolding first_kind
fits_close = (record { shape = (refl, refl); in_range = λ e. absurd cc; gap = inl refl }, tt, tt)

fits_target : (name class : List ℕ) (ws : List Written) → IsName name → is_word class ≡ true → Apart ws → Fine ws → Fine (target_words name class ++ ws)
fits_target name class ws n h a f = fits_temp name (spaced kinds.Equals (codes "=") ∷ tight kinds.Word class ∷ ws) n (refl, refl, refl) (fits_equals (tight kinds.Word class ∷ ws) (fits_word [] class ws (inl refl) h a f))

fits_one : (op : List ℕ) (a : Operand) → is_word op ≡ true → GoodOperand a → Fine (one_value op a)
fits_one op a h good = fits_word (codes " ") op (a_value a ∷ []) (inr refl) h (refl, refl, refl) (fits_value a [] good (refl, refl, refl) tt)

fits_pair : (a b : Operand) → GoodOperand a → GoodOperand b → Fine (a_value a ∷ comma ∷ a_value b ∷ [])
fits_pair a b x y = fits_value a (comma ∷ a_value b ∷ []) x (refl, refl, refl) (fits_comma (a_value b ∷ []) (fits_value b [] y (refl, refl, refl) tt))

fits_two : (op : List ℕ) (a b : Operand) → is_word op ≡ true → GoodOperand a → GoodOperand b → Fine (two_values op a b)
fits_two op a b h x y = fits_word (codes " ") op (a_value a ∷ comma ∷ a_value b ∷ []) (inr refl) h (refl, refl, refl) (fits_pair a b x y)

-- ---- the words of the language

class_word : (c : Class) → is_word (class_name c) ≡ true
class_word classes.W = refl
class_word classes.L = refl

type_word : (t : AbiType) → is_word (type_name t) ≡ true
type_word types.W = refl
type_word types.L = refl
type_word types.Sb = refl
type_word types.Ub = refl
type_word types.Sh = refl
type_word types.Uh = refl

unary_word : (op : UnaryOp) → is_word (unary_name op) ≡ true
unary_word unary_ops.Copy = refl
unary_word unary_ops.Neg = refl

binary_word : (op : BinaryOp) → is_word (binary_name op) ≡ true
binary_word binary_ops.Add = refl
binary_word binary_ops.Sub = refl
binary_word binary_ops.Mul = refl
binary_word binary_ops.Div = refl
binary_word binary_ops.Rem = refl
binary_word binary_ops.Udiv = refl
binary_word binary_ops.Urem = refl
binary_word binary_ops.And = refl
binary_word binary_ops.Or = refl
binary_word binary_ops.Xor = refl
binary_word binary_ops.Sar = refl
binary_word binary_ops.Shr = refl
binary_word binary_ops.Shl = refl

compare_word : (op : CompareOp) (c : Class) → is_word (compare_name op ++ class_name c) ≡ true
compare_word compare_ops.Eq classes.W = refl
compare_word compare_ops.Ne classes.W = refl
compare_word compare_ops.Sle classes.W = refl
compare_word compare_ops.Slt classes.W = refl
compare_word compare_ops.Sge classes.W = refl
compare_word compare_ops.Sgt classes.W = refl
compare_word compare_ops.Ule classes.W = refl
compare_word compare_ops.Ult classes.W = refl
compare_word compare_ops.Uge classes.W = refl
compare_word compare_ops.Ugt classes.W = refl
compare_word compare_ops.Eq classes.L = refl
compare_word compare_ops.Ne classes.L = refl
compare_word compare_ops.Sle classes.L = refl
compare_word compare_ops.Slt classes.L = refl
compare_word compare_ops.Sge classes.L = refl
compare_word compare_ops.Sgt classes.L = refl
compare_word compare_ops.Ule classes.L = refl
compare_word compare_ops.Ult classes.L = refl
compare_word compare_ops.Uge classes.L = refl
compare_word compare_ops.Ugt classes.L = refl

extension_word : (op : Extension) → is_word (extension_name op) ≡ true
extension_word extensions.Sw = refl
extension_word extensions.Uw = refl
extension_word extensions.Sh = refl
extension_word extensions.Uh = refl
extension_word extensions.Sb = refl
extension_word extensions.Ub = refl

load_word : (op : LoadOp) → is_word (load_name op) ≡ true
load_word load_ops.L = refl
load_word load_ops.Sw = refl
load_word load_ops.Uw = refl
load_word load_ops.Sh = refl
load_word load_ops.Uh = refl
load_word load_ops.Sb = refl
load_word load_ops.Ub = refl

alloc_word : (op : AllocOp) → is_word (alloc_name op) ≡ true
alloc_word alloc_ops.Four = refl
alloc_word alloc_ops.Eight = refl
alloc_word alloc_ops.Sixteen = refl

store_word : (w : Width) → is_word (store_name w) ≡ true
store_word widths.B = refl
store_word widths.H = refl
store_word widths.W = refl
store_word widths.L = refl

-- ---- instructions

fits_expr : (e : Expr) → GoodExpr e → Fine (expr_words e)
fits_expr (exprs.Unary op a) good = fits_one (unary_name op) a (unary_word op) good
fits_expr (exprs.Binary op a b) good = fits_two (binary_name op) a b (binary_word op) good.0 good.1
fits_expr (exprs.Compare op c a b) good = fits_two (compare_name op ++ class_name c) a b (compare_word op c) good.0 good.1
fits_expr (exprs.Extend op a) good = fits_one (extension_name op) a (extension_word op) good
fits_expr (exprs.Load op a) good = fits_one (load_name op) a (load_word op) good

expr_apart : (e : Expr) → Apart (expr_words e)
expr_apart (exprs.Unary op a) = (refl, refl, refl)
expr_apart (exprs.Binary op a b) = (refl, refl, refl)
expr_apart (exprs.Compare op c a b) = (refl, refl, refl)
expr_apart (exprs.Extend op a) = (refl, refl, refl)
expr_apart (exprs.Load op a) = (refl, refl, refl)

abbrev more_of : List Argument → List Written
more_of others = flat_map more_argument_words others ++ close_paren ∷ []

more_apart : (others : List Argument) → Apart (more_of others)
more_apart [] = (refl, refl, refl)
more_apart (a ∷ others) = (refl, refl, refl)

fits_more : (others : List Argument) → AllOf GoodArgument others → Fine (more_of others)
fits_more [] good = fits_close
fits_more (a ∷ others) good = fits_comma (spaced kinds.Word (type_name a.abi_type) ∷ a_value a.value ∷ more_of others) (fits_word (codes " ") (type_name a.abi_type) (a_value a.value ∷ more_of others) (inr refl) (type_word a.abi_type) (refl, refl, refl) (fits_value a.value (more_of others) good.0 (more_apart others) (fits_more others good.1)))

fits_arguments : (all : List Argument) → AllOf GoodArgument all → Fine (arguments_words all ++ close_paren ∷ [])
fits_arguments [] good = fits_close
fits_arguments (a ∷ others) good = fits_word [] (type_name a.abi_type) (a_value a.value ∷ more_of others) (inl refl) (type_word a.abi_type) (refl, refl, refl) (fits_value a.value (more_of others) good.0 (more_apart others) (fits_more others good.1))

fits_callee : (o : Operand) (all : List Argument) → GoodOperand o → AllOf GoodArgument all → Fine (a_value o ∷ tight kinds.OpenParen (codes "(") ∷ (arguments_words all ++ close_paren ∷ []))
fits_callee o all good each = fits_value o (tight kinds.OpenParen (codes "(") ∷ (arguments_words all ++ close_paren ∷ [])) good (refl, refl, refl) (fits_open (arguments_words all ++ close_paren ∷ []) (fits_arguments all each))

pub fits_kind : {A : Type 0} (k : InstKind A) → GoodKind k → Fine (kind_words k)
fits_kind (inst_kinds.Assign t e) good = fits_target t.name (class_name t.class) (expr_words e) good.0 (class_word t.class) (expr_apart e) (fits_expr e good.1)
fits_kind (inst_kinds.Alloc t op size) good = fits_target t.name (class_name t.class) (one_value (alloc_name op) size) good.0 (class_word t.class) (refl, refl, refl) (fits_one (alloc_name op) size (alloc_word op) good.1)
fits_kind (inst_kinds.Store width value to) good = fits_word [] (store_name width) (a_value value ∷ comma ∷ a_value to ∷ []) (inl refl) (store_word width) (refl, refl, refl) (fits_pair value to good.0 good.1)
fits_kind (inst_kinds.Blit from to count) good =
    fits_word [] (codes "blit") (a_value from ∷ comma ∷ a_value to ∷ comma ∷ spaced kinds.Number (fmt.decimal count) ∷ []) (inl refl) refl (refl, refl, refl)
    (fits_value from (comma ∷ a_value to ∷ comma ∷ spaced kinds.Number (fmt.decimal count) ∷ []) good.0 (refl, refl, refl)
    (fits_comma (a_value to ∷ comma ∷ spaced kinds.Number (fmt.decimal count) ∷ [])
    (fits_value to (comma ∷ spaced kinds.Number (fmt.decimal count) ∷ []) good.1 (refl, refl, refl)
    (fits_comma (spaced kinds.Number (fmt.decimal count) ∷ []) (fits_number count [] good.2 (refl, refl, refl) tt)))))
fits_kind (inst_kinds.Call None callee arguments) good = fits_word [] (codes "call") (a_value callee ∷ tight kinds.OpenParen (codes "(") ∷ (arguments_words arguments ++ close_paren ∷ [])) (inl refl) refl (refl, refl, refl) (fits_callee callee arguments good.1 good.2)
fits_kind (inst_kinds.Call (Some r) callee arguments) good =
    fits_target r.name (type_name r.abi_type) (spaced kinds.Word (codes "call") ∷ a_value callee ∷ tight kinds.OpenParen (codes "(") ∷ (arguments_words arguments ++ close_paren ∷ [])) good.0 (type_word r.abi_type) (refl, refl, refl)
    (fits_word (codes " ") (codes "call") (a_value callee ∷ tight kinds.OpenParen (codes "(") ∷ (arguments_words arguments ++ close_paren ∷ [])) (inr refl) refl (refl, refl, refl) (fits_callee callee arguments good.1 good.2))

-- ---- phis and jumps

more_sources : (others : List PhiSource) → Apart (flat_map more_source_words others)
more_sources [] = (refl, refl, refl)
more_sources (s ∷ others) = (refl, refl, refl)

fits_source : (s : PhiSource) (ws : List Written) → GoodSource s → Apart ws → Fine ws → Fine (a_label s.label ∷ a_value s.value ∷ ws)
fits_source s ws good a f = fits_label s.label (a_value s.value ∷ ws) good.0 (refl, refl, refl) (fits_value s.value ws good.1 a f)

fits_more_sources : (others : List PhiSource) → AllOf GoodSource others → Fine (flat_map more_source_words others)
fits_more_sources [] good = tt
fits_more_sources (s ∷ others) good = fits_comma (a_label s.label ∷ a_value s.value ∷ flat_map more_source_words others) (fits_source s (flat_map more_source_words others) good.0 (more_sources others) (fits_more_sources others good.1))

fits_sources : (all : List PhiSource) → GoodSources all → Fine (spaced kinds.Word (codes "phi") ∷ sources_words all)
fits_sources [] good = absurd good
fits_sources (s ∷ others) good = fits_word (codes " ") (codes "phi") (a_label s.label ∷ a_value s.value ∷ flat_map more_source_words others) (inr refl) refl (refl, refl, refl) (fits_source s (flat_map more_source_words others) good.0 (more_sources others) (fits_more_sources others good.1))

pub fits_phi : {A : Type 0} (p : Phi A) → GoodPhi p → Fine (phi_words p)
fits_phi p good = fits_target p.target.name (class_name p.target.class) (spaced kinds.Word (codes "phi") ∷ sources_words p.sources) good.0 (class_word p.target.class) (refl, refl, refl) (fits_sources p.sources good.1)

pub fits_going : (k : JumpKind) → GoodJump k → Fine (going_words k)
fits_going (jump_kinds.Jmp to) good = fits_word [] (codes "jmp") (a_label to ∷ []) (inl refl) refl (refl, refl, refl) (fits_label to [] good (refl, refl, refl) tt)
fits_going (jump_kinds.Jnz value a b) good =
    fits_word [] (codes "jnz") (a_value value ∷ comma ∷ a_label a ∷ comma ∷ a_label b ∷ []) (inl refl) refl (refl, refl, refl)
    (fits_value value (comma ∷ a_label a ∷ comma ∷ a_label b ∷ []) good.0 (refl, refl, refl)
    (fits_comma (a_label a ∷ comma ∷ a_label b ∷ [])
    (fits_label a (comma ∷ a_label b ∷ []) good.1 (refl, refl, refl) (fits_comma (a_label b ∷ []) (fits_label b [] good.2 (refl, refl, refl) tt)))))
fits_going (jump_kinds.Ret None) good = fits_word [] (codes "ret") [] (inl refl) refl (refl, refl, refl) tt
fits_going (jump_kinds.Ret (Some value)) good = fits_word [] (codes "ret") (a_value value ∷ []) (inl refl) refl (refl, refl, refl) (fits_value value [] good (refl, refl, refl) tt)
fits_going jump_kinds.Hlt good = fits_word [] (codes "hlt") [] (inl refl) refl (refl, refl, refl) tt
