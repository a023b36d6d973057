-- The words of the grammar, and the words of QBE's IL that this language leaves out.
use Rattle.std.specs.Prelude.{ℕ, Bool, true, false, ◌||◌, List, [], ◌∷◌, take, codes, Option, Some, None, if◌then◌else◌}
use Rattle.std.specs.Str.{bytes_eq}
use Rattle.qil_lexer.specs.declared.token.TokenKind.{TokenKind}
use Rattle.qil_lexer.specs.declared.token.TokenKind.TheVariants as kinds
use Rattle.qil_parser.specs.declared.terminal.Terminal.{Terminal}
use Rattle.qil_parser.specs.declared.terminal.Terminal.TheVariants as terminals
use Rattle.qil_tree.specs.declared.ops.Class.TheVariants as classes
use Rattle.qil_tree.specs.declared.ops.UnaryOp.TheVariants as unary_ops
use Rattle.qil_tree.specs.declared.ops.BinaryOp.TheVariants as binary_ops
use Rattle.qil_tree.specs.declared.ops.CompareOp.TheVariants as compare_ops
use Rattle.qil_tree.specs.declared.ops.Extension.TheVariants as extension_ops
use Rattle.qil_tree.specs.declared.ops.LoadOp.TheVariants as load_ops
use Rattle.qil_tree.specs.declared.ops.AllocOp.TheVariants as alloc_ops
use Rattle.qil_tree.specs.declared.ops.Width.TheVariants as widths

-- what stands next to a text in a table
abbrev pub next_to : List (List ℕ × Terminal) → List ℕ → Option Terminal
next_to [] text = None
next_to (row ∷ rows) text = if bytes_eq text row.0 then Some row.1 else next_to rows text

-- ---- the words of the grammar

abbrev pub grammar_words : List (List ℕ × Terminal)
grammar_words =
    (codes "w", terminals.W) ∷
    (codes "l", terminals.L) ∷
    (codes "call", terminals.Call) ∷
    (codes "phi", terminals.Phi) ∷
    (codes "ret", terminals.Ret) ∷
    (codes "jmp", terminals.Jmp) ∷
    (codes "jnz", terminals.Jnz) ∷
    (codes "function", terminals.Function) ∷
    (codes "hlt", terminals.Hlt) ∷
    (codes "blit", terminals.Blit) ∷
    (codes "data", terminals.Data) ∷
    (codes "align", terminals.Align) ∷
    (codes "z", terminals.Z) ∷
    (codes "b", terminals.B) ∷
    (codes "h", terminals.H) ∷
    (codes "export", terminals.Export) ∷
    (codes "section", terminals.Section) ∷
    (codes "sb", terminals.Sb) ∷
    (codes "ub", terminals.Ub) ∷
    (codes "sh", terminals.Sh) ∷
    (codes "uh", terminals.Uh) ∷
    (codes "copy", terminals.Unary unary_ops.Copy) ∷
    (codes "neg", terminals.Unary unary_ops.Neg) ∷
    (codes "add", terminals.Binary binary_ops.Add) ∷
    (codes "sub", terminals.Binary binary_ops.Sub) ∷
    (codes "mul", terminals.Binary binary_ops.Mul) ∷
    (codes "div", terminals.Binary binary_ops.Div) ∷
    (codes "rem", terminals.Binary binary_ops.Rem) ∷
    (codes "udiv", terminals.Binary binary_ops.Udiv) ∷
    (codes "urem", terminals.Binary binary_ops.Urem) ∷
    (codes "and", terminals.Binary binary_ops.And) ∷
    (codes "or", terminals.Binary binary_ops.Or) ∷
    (codes "xor", terminals.Binary binary_ops.Xor) ∷
    (codes "sar", terminals.Binary binary_ops.Sar) ∷
    (codes "shr", terminals.Binary binary_ops.Shr) ∷
    (codes "shl", terminals.Binary binary_ops.Shl) ∷
    (codes "extsw", terminals.Extend extension_ops.Sw) ∷
    (codes "extuw", terminals.Extend extension_ops.Uw) ∷
    (codes "extsh", terminals.Extend extension_ops.Sh) ∷
    (codes "extuh", terminals.Extend extension_ops.Uh) ∷
    (codes "extsb", terminals.Extend extension_ops.Sb) ∷
    (codes "extub", terminals.Extend extension_ops.Ub) ∷
    (codes "loadl", terminals.Load load_ops.L) ∷
    (codes "loadw", terminals.Load load_ops.Sw) ∷
    (codes "loadsw", terminals.Load load_ops.Sw) ∷
    (codes "loaduw", terminals.Load load_ops.Uw) ∷
    (codes "loadsh", terminals.Load load_ops.Sh) ∷
    (codes "loaduh", terminals.Load load_ops.Uh) ∷
    (codes "loadsb", terminals.Load load_ops.Sb) ∷
    (codes "loadub", terminals.Load load_ops.Ub) ∷
    (codes "storel", terminals.Store widths.L) ∷
    (codes "storew", terminals.Store widths.W) ∷
    (codes "storeh", terminals.Store widths.H) ∷
    (codes "storeb", terminals.Store widths.B) ∷
    (codes "alloc4", terminals.Alloc alloc_ops.Four) ∷
    (codes "alloc8", terminals.Alloc alloc_ops.Eight) ∷
    (codes "alloc16", terminals.Alloc alloc_ops.Sixteen) ∷
    (codes "ceqw", terminals.Compare compare_ops.Eq classes.W) ∷
    (codes "cnew", terminals.Compare compare_ops.Ne classes.W) ∷
    (codes "cslew", terminals.Compare compare_ops.Sle classes.W) ∷
    (codes "csltw", terminals.Compare compare_ops.Slt classes.W) ∷
    (codes "csgew", terminals.Compare compare_ops.Sge classes.W) ∷
    (codes "csgtw", terminals.Compare compare_ops.Sgt classes.W) ∷
    (codes "culew", terminals.Compare compare_ops.Ule classes.W) ∷
    (codes "cultw", terminals.Compare compare_ops.Ult classes.W) ∷
    (codes "cugew", terminals.Compare compare_ops.Uge classes.W) ∷
    (codes "cugtw", terminals.Compare compare_ops.Ugt classes.W) ∷
    (codes "ceql", terminals.Compare compare_ops.Eq classes.L) ∷
    (codes "cnel", terminals.Compare compare_ops.Ne classes.L) ∷
    (codes "cslel", terminals.Compare compare_ops.Sle classes.L) ∷
    (codes "csltl", terminals.Compare compare_ops.Slt classes.L) ∷
    (codes "csgel", terminals.Compare compare_ops.Sge classes.L) ∷
    (codes "csgtl", terminals.Compare compare_ops.Sgt classes.L) ∷
    (codes "culel", terminals.Compare compare_ops.Ule classes.L) ∷
    (codes "cultl", terminals.Compare compare_ops.Ult classes.L) ∷
    (codes "cugel", terminals.Compare compare_ops.Uge classes.L) ∷
    (codes "cugtl", terminals.Compare compare_ops.Ugt classes.L) ∷ []

-- the first that is there
abbrev pub or_else : Option Terminal → Terminal → Terminal
or_else (Some terminal) instead = terminal
or_else None instead = instead

unfoldable pub word_terminal : List ℕ → Terminal
word_terminal text = or_else (next_to grammar_words text) terminals.Other

-- ---- what is left out of QBE's IL

abbrev pub is_one_of : List (List ℕ) → List ℕ → Bool
is_one_of [] text = false
is_one_of (word ∷ words) text = bytes_eq text word || is_one_of words text

-- of types, threads, variable arguments and debugging, and of classes next to w and l; of floating point: loads, stores, conversions and comparisons
abbrev pub left_out_words : List (List ℕ)
left_out_words =
    codes "type" ∷ codes "env" ∷ codes "thread" ∷ codes "vastart" ∷ codes "vaarg" ∷ codes "dbgfile" ∷
    codes "dbgloc" ∷ codes "cast" ∷ codes "s" ∷ codes "d" ∷ codes "loads" ∷ codes "loadd" ∷ codes "stores" ∷
    codes "stored" ∷ codes "exts" ∷ codes "truncd" ∷ codes "stosi" ∷ codes "stoui" ∷ codes "dtosi" ∷
    codes "dtoui" ∷ codes "swtof" ∷ codes "uwtof" ∷ codes "sltof" ∷ codes "ultof" ∷ codes "ceqs" ∷
    codes "cnes" ∷ codes "cles" ∷ codes "clts" ∷ codes "cges" ∷ codes "cgts" ∷ codes "cos" ∷ codes "cuos" ∷
    codes "ceqd" ∷ codes "cned" ∷ codes "cled" ∷ codes "cltd" ∷ codes "cged" ∷ codes "cgtd" ∷ codes "cod" ∷
    codes "cuod" ∷ []

-- a constant of floating point, as s_1.5
abbrev pub is_constant : List ℕ → Bool
is_constant text = is_one_of (codes "s_" ∷ codes "d_" ∷ []) (take 2 text)

unfoldable pub left_out_word : List ℕ → Bool
left_out_word text = is_constant text || is_one_of left_out_words text

abbrev pub left_out : TokenKind → List ℕ → Bool
left_out kinds.Aggregate text = true
left_out kinds.Dots text = true
left_out kinds.Word text = left_out_word text
left_out _ text = false
