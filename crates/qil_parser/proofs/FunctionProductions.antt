-- The instructions, the jumps and the top of a function are read as they are spelled.
use Rattle.std.proofs.Common.{◌≡◌, ℕ, true, false, [], ◌∷◌, Some, refl}
use Rattle.std.specs.Prelude.{codes}
use Rattle.qil_language.specs.Language.{Seq, Image}
use Rattle.qil_language.specs.Reading.{has, seq}
use Rattle.qil_language.specs.Reads.{Reads, Takes}
use Rattle.qil_language.proofs.Law.{seq_reads, image_reads, one_reads, either_reads, many_reads}
use Rattle.qil_language.proofs.Loop.{takes_by}
use Rattle.qil_parser.specs.declared.terminal.Terminal.{Terminal}
use Rattle.qil_parser.specs.declared.terminal.Terminal.TheVariants as terminals
use Rattle.qil_tree.specs.declared.ops.Class.{Class}
use Rattle.qil_tree.specs.declared.ops.Class.TheVariants as class_names
use Rattle.qil_tree.specs.declared.ops.UnaryOp.{UnaryOp}
use Rattle.qil_tree.specs.declared.ops.UnaryOp.TheVariants as unary_ops
use Rattle.qil_tree.specs.declared.ops.BinaryOp.{BinaryOp}
use Rattle.qil_tree.specs.declared.ops.BinaryOp.TheVariants as binary_ops
use Rattle.qil_tree.specs.declared.ops.CompareOp.{CompareOp}
use Rattle.qil_tree.specs.declared.ops.CompareOp.TheVariants as compare_ops
use Rattle.qil_tree.specs.declared.ops.Extension.{Extension}
use Rattle.qil_tree.specs.declared.ops.Extension.TheVariants as extension_ops
use Rattle.qil_tree.specs.declared.ops.LoadOp.{LoadOp}
use Rattle.qil_tree.specs.declared.ops.LoadOp.TheVariants as load_ops
use Rattle.qil_tree.specs.declared.ops.AllocOp.{AllocOp}
use Rattle.qil_tree.specs.declared.ops.AllocOp.TheVariants as alloc_ops
use Rattle.qil_tree.specs.declared.ops.Width.{Width}
use Rattle.qil_tree.specs.declared.ops.Width.TheVariants as widths
use Rattle.qil_parser.specs.Words.{word_terminal}
use Rattle.qil_parser.specs.Token.{terminal, code, index}
use Rattle.qil_parser.specs.Grammar.{WordLine, LabelName, Val, After, Before, list_of}
use Rattle.qil_parser.specs.Functions
use Rattle.qil_parser.specs.Functions.{unary_at, binary_at, compare_at, extend_at, load_at, alloc_at, store_at}
use Rattle.qil_parser.specs.Parsing.{the, types, values, val, after, before}
use Rattle.qil_parser.specs.FunctionParsing
use Rattle.qil_parser.specs.FunctionParsing.{unaries, binaries, compares, extends, loads, allocs, stores, exprs, plain_starts, jump_starts}
use Rattle.qil_parser.proofs.Productions.{at, a_word, comma, equals, open_paren, close_paren, open_brace, newline, word_line_reads, temp_reads, label_reads, global_reads, val_reads, count_reads, type_reads, two_reads, line_reads, after_reads, before_reads, perhaps_reads, listed_reads}

-- ---- words of operations

unary_fits : (m : Terminal) (a : UnaryOp) → unary_at m ≡ Some a → has unaries (code m) ≡ true
unary_fits (terminals.Unary op) a h = refl
unary_fits _ a h = absurd cc

unary_reads : (n : ℕ) → Reads n true index Functions.UnaryWord FunctionParsing.unary_word unaries false []
unfolding at a_word word_terminal
unary_reads n = one_reads index (λ t. unary_at (terminal t)) unaries (λ t a h. unary_fits (terminal t) a h) (a_word (codes "copy")) unary_ops.Copy refl n

binary_fits : (m : Terminal) (a : BinaryOp) → binary_at m ≡ Some a → has binaries (code m) ≡ true
binary_fits (terminals.Binary op) a h = refl
binary_fits _ a h = absurd cc

binary_reads : (n : ℕ) → Reads n true index Functions.BinaryWord FunctionParsing.binary_word binaries false []
unfolding at a_word word_terminal
binary_reads n = one_reads index (λ t. binary_at (terminal t)) binaries (λ t a h. binary_fits (terminal t) a h) (a_word (codes "add")) binary_ops.Add refl n

compare_fits : (m : Terminal) (a : CompareOp × Class) → compare_at m ≡ Some a → has compares (code m) ≡ true
compare_fits (terminals.Compare op class) a h = refl
compare_fits _ a h = absurd cc

compare_reads : (n : ℕ) → Reads n true index Functions.CompareWord FunctionParsing.compare_word compares false []
unfolding at a_word word_terminal
compare_reads n = one_reads index (λ t. compare_at (terminal t)) compares (λ t a h. compare_fits (terminal t) a h) (a_word (codes "ceqw")) (compare_ops.Eq, class_names.W) refl n

extend_fits : (m : Terminal) (a : Extension) → extend_at m ≡ Some a → has extends (code m) ≡ true
extend_fits (terminals.Extend op) a h = refl
extend_fits _ a h = absurd cc

extend_reads : (n : ℕ) → Reads n true index Functions.ExtendWord FunctionParsing.extend_word extends false []
unfolding at a_word word_terminal
extend_reads n = one_reads index (λ t. extend_at (terminal t)) extends (λ t a h. extend_fits (terminal t) a h) (a_word (codes "extsw")) extension_ops.Sw refl n

load_fits : (m : Terminal) (a : LoadOp) → load_at m ≡ Some a → has loads (code m) ≡ true
load_fits (terminals.Load op) a h = refl
load_fits _ a h = absurd cc

load_reads : (n : ℕ) → Reads n true index Functions.LoadWord FunctionParsing.load_word loads false []
unfolding at a_word word_terminal
load_reads n = one_reads index (λ t. load_at (terminal t)) loads (λ t a h. load_fits (terminal t) a h) (a_word (codes "loadl")) load_ops.L refl n

alloc_fits : (m : Terminal) (a : AllocOp) → alloc_at m ≡ Some a → has allocs (code m) ≡ true
alloc_fits (terminals.Alloc op) a h = refl
alloc_fits _ a h = absurd cc

alloc_reads : (n : ℕ) → Reads n true index Functions.AllocWord FunctionParsing.alloc_word allocs false []
unfolding at a_word word_terminal
alloc_reads n = one_reads index (λ t. alloc_at (terminal t)) allocs (λ t a h. alloc_fits (terminal t) a h) (a_word (codes "alloc4")) alloc_ops.Four refl n

store_fits : (m : Terminal) (line : ℕ) (a : ℕ × Width) → store_at m line ≡ Some a → has stores (code m) ≡ true
store_fits (terminals.Store width) line a h = refl
store_fits _ line a h = absurd cc

store_reads : (n : ℕ) → Reads n true index Functions.StoreWord FunctionParsing.store_word stores false []
unfolding at a_word word_terminal
store_reads n = one_reads index (λ t. store_at (terminal t) t.line) stores (λ t a h. store_fits (terminal t) t.line a h) (a_word (codes "storeb")) (1, widths.B) refl n

-- ---- instructions

pub dest_reads : (n : ℕ) → Reads n true index Functions.Dest FunctionParsing.dest (the terminals.Temp) false []
unfolding at equals FunctionParsing.dest
dest_reads n = before_reads terminals.Equals equals refl refl (temp_reads n)

pub expr_reads : (n : ℕ) → Reads n true index Functions.ExprOf FunctionParsing.expr exprs false []
unfolding FunctionParsing.expr FunctionParsing.extend_or_load
expr_reads n =
    either_reads (image_reads Functions.unary_of (seq_reads (unary_reads n) (val_reads n) refl))
    (either_reads (image_reads Functions.binary_of (seq_reads (binary_reads n) (two_reads n) refl))
    (either_reads (image_reads Functions.compare_of (seq_reads (compare_reads n) (two_reads n) refl))
    (either_reads (image_reads Functions.extend_of (seq_reads (extend_reads n) (val_reads n) refl)) (image_reads Functions.load_of (seq_reads (load_reads n) (val_reads n) refl)) refl) refl) refl) refl

pub argument_reads : (n : ℕ) → Reads n true index Functions.ArgumentOf FunctionParsing.argument types false []
unfolding FunctionParsing.argument
argument_reads n = image_reads Functions.argument_of (seq_reads (type_reads n) (val_reads n) refl)

pub callee_reads : (n : ℕ) → Reads n true index Functions.Callee FunctionParsing.callee values false []
unfolding at open_paren close_paren FunctionParsing.callee FunctionParsing.arguments
callee_reads n = seq_reads (val_reads n) (after_reads terminals.OpenParen open_paren refl (before_reads terminals.CloseParen close_paren refl refl (listed_reads (argument_reads n)))) refl

pub called_reads : (n : ℕ) → Reads n true index (After terminals.Call Functions.Callee) FunctionParsing.called (the terminals.Call) false []
unfolding at a_word word_terminal FunctionParsing.called
called_reads n = after_reads terminals.Call (a_word (codes "call")) refl (callee_reads n)

pub alloc_val_reads : (n : ℕ) → Reads n true index (Seq Functions.AllocWord Val) (seq FunctionParsing.alloc_word val) allocs false []
alloc_val_reads n = seq_reads (alloc_reads n) (val_reads n) refl

pub plain_reads : {A : Type 0} (n : ℕ) → Reads n true index (Functions.Plain {A = A}) FunctionParsing.plain plain_starts false []
unfolding at a_word word_terminal comma FunctionParsing.plain
plain_reads n =
    either_reads (image_reads Functions.store_of (seq_reads (store_reads n) (two_reads n) refl))
    (either_reads (image_reads Functions.blit_of (seq_reads (word_line_reads terminals.Blit (a_word (codes "blit")) 1 refl n) (seq_reads (before_reads terminals.Comma comma refl refl (two_reads n)) (count_reads n) refl) refl))
    (image_reads Functions.plain_call_of (seq_reads (word_line_reads terminals.Call (a_word (codes "call")) 1 refl n) (callee_reads n) refl)) refl) refl

-- ---- phis and jumps

pub source_reads : (n : ℕ) → Reads n true index Functions.SourceOf FunctionParsing.source (the terminals.Label) false []
unfolding FunctionParsing.source
source_reads n = image_reads Functions.source_of (seq_reads (label_reads n) (val_reads n) refl)

pub next_source_reads : (n : ℕ) → Reads n true index (After terminals.Comma Functions.SourceOf) (after terminals.Comma FunctionParsing.source) (the terminals.Comma) false []
unfolding at comma
next_source_reads n = after_reads terminals.Comma comma refl (source_reads n)

pub sources_reads : (n : ℕ) → Reads n true index Functions.Sources FunctionParsing.sources (the terminals.Phi) false (the terminals.Comma)
unfolding at a_word word_terminal FunctionParsing.sources FunctionParsing.more_sources
sources_reads n = after_reads terminals.Phi (a_word (codes "phi")) refl (image_reads list_of (seq_reads (source_reads n) (many_reads (next_source_reads n) refl) refl))

pub sources_line_reads : (n : ℕ) → Reads n true index (Before Functions.Sources terminals.Newline) (before FunctionParsing.sources terminals.Newline) (the terminals.Phi) false []
unfolding at newline
sources_line_reads n = before_reads terminals.Newline newline refl refl (sources_reads n)

jnz_reads : (n : ℕ) → Reads n true index (Image Functions.jnz_of (Seq (WordLine terminals.Jnz) (Seq (Before Val terminals.Comma) (Seq (Before LabelName terminals.Comma) LabelName)))) FunctionParsing.jnz (the terminals.Jnz) false []
unfolding at a_word word_terminal comma FunctionParsing.jnz
jnz_reads n = image_reads Functions.jnz_of (seq_reads (word_line_reads terminals.Jnz (a_word (codes "jnz")) 1 refl n) (seq_reads (before_reads terminals.Comma comma refl refl (val_reads n)) (seq_reads (before_reads terminals.Comma comma refl refl (label_reads n)) (label_reads n) refl) refl) refl)

pub jump_reads : (n : ℕ) → Reads n true index Functions.JumpOf FunctionParsing.jump jump_starts false values
unfolding at a_word word_terminal FunctionParsing.jump
jump_reads n =
    either_reads (image_reads Functions.jmp_of (seq_reads (word_line_reads terminals.Jmp (a_word (codes "jmp")) 1 refl n) (label_reads n) refl))
    (either_reads (jnz_reads n)
    (either_reads (image_reads Functions.ret_of (seq_reads (word_line_reads terminals.Ret (a_word (codes "ret")) 1 refl n) (perhaps_reads (val_reads n)) refl)) (image_reads Functions.hlt_of (word_line_reads terminals.Hlt (a_word (codes "hlt")) 1 refl n)) refl) refl) refl

pub jump_line_reads : (n : ℕ) → Reads n true index (Before Functions.JumpOf terminals.Newline) (before FunctionParsing.jump terminals.Newline) jump_starts false []
unfolding at newline
jump_line_reads n = before_reads terminals.Newline newline refl refl (jump_reads n)

-- ---- the top of a function

pub param_reads : (n : ℕ) → Reads n true index Functions.ParamOf FunctionParsing.param types false []
unfolding FunctionParsing.param
param_reads n = image_reads Functions.param_of (seq_reads (type_reads n) (temp_reads n) refl)

all_params_reads : (n : ℕ) → Reads n true index Functions.Params FunctionParsing.all_params (the terminals.OpenParen) false []
unfolding at open_paren close_paren FunctionParsing.all_params FunctionParsing.params
all_params_reads n = after_reads terminals.OpenParen open_paren refl (before_reads terminals.CloseParen close_paren refl refl (listed_reads (param_reads n)))

opening_reads : (n : ℕ) → Reads n true index Functions.Opening FunctionParsing.opening (code terminals.Newline ∷ code terminals.OpenBrace ∷ []) false (the terminals.Newline)
unfolding at open_brace FunctionParsing.opening
opening_reads n = image_reads (λ v. v.1) (seq_reads (line_reads n) (after_reads terminals.OpenBrace open_brace refl (line_reads n)) refl)

pub top_reads : (n : ℕ) → Reads n true index Functions.FuncTop FunctionParsing.top (the terminals.Function) false (the terminals.Newline)
unfolding at a_word word_terminal FunctionParsing.top
top_reads n = after_reads terminals.Function (a_word (codes "function")) refl (seq_reads (perhaps_reads (type_reads n)) (seq_reads (global_reads n) (image_reads (λ v. v.0) (seq_reads (all_params_reads n) (opening_reads n) refl)) refl) refl)

-- ---- what takes a token or more

pub argument_takes : Takes FunctionParsing.argument
argument_takes = takes_by argument_reads

pub param_takes : Takes FunctionParsing.param
param_takes = takes_by param_reads

pub next_source_takes : Takes (after terminals.Comma FunctionParsing.source)
next_source_takes = takes_by next_source_reads

pub sources_line_takes : Takes (before FunctionParsing.sources terminals.Newline)
sources_line_takes = takes_by sources_line_reads

pub dest_takes : Takes FunctionParsing.dest
dest_takes = takes_by dest_reads

pub jump_line_takes : Takes (before FunctionParsing.jump terminals.Newline)
jump_line_takes = takes_by jump_line_reads
