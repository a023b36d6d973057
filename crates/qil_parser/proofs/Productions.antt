-- The phrases of the grammar are read as they are spelled.
use Rattle.std.proofs.Common.{◌&&◌, ◌≡◌, ℕ, Bool, true, false, cond, eqb, List, [], ◌∷◌, ◌++◌, Some, None, refl}
use Rattle.std.specs.Prelude.{codes}
use Rattle.qil_lexer.specs.declared.token.TokenKind.{TokenKind}
use Rattle.qil_lexer.specs.declared.token.TokenKind.TheVariants as kinds
use Rattle.qil_lexer.specs.Shape.{number_value}
use Rattle.qil_language.specs.Reading.{Read, has}
use Rattle.qil_language.specs.Reads.{Reads, Takes, apart, when}
use Rattle.qil_language.proofs.Law.{seq_reads, image_reads, one_reads, nothing_reads, either_reads, tail_reads, apart_nil}
use Rattle.qil_language.proofs.Loop.{takes_by}
use Rattle.qil_parser.specs.declared.terminal.Terminal.{Terminal}
use Rattle.qil_parser.specs.declared.terminal.Terminal.TheVariants as terminals
use Rattle.qil_tree.specs.declared.ops.Class.{Class}
use Rattle.qil_tree.specs.declared.ops.Class.TheVariants as the_classes
use Rattle.qil_tree.specs.declared.ops.AbiType.{AbiType}
use Rattle.qil_tree.specs.declared.ops.AbiType.TheVariants as the_types
use Rattle.qil_tree.specs.declared.tree.Operand.{Operand}
use Rattle.qil_tree.specs.declared.tree.Operand.TheVariants as operands
use Rattle.qil_parser.specs.Words.{word_terminal}
use Rattle.qil_parser.specs.Token.{Tok, terminal, kind_terminal, code, index}
use Rattle.qil_tree.specs.Types.{type_of}
use Rattle.qil_parser.specs.Grammar
use Rattle.qil_parser.specs.Grammar.{exactly, line_at, temp_at, label_at, global_at, class_at, sub_at, operand_at, count_at}
use Rattle.qil_parser.specs.Parsing
use Rattle.qil_parser.specs.Parsing.{the, classes, sub_words, types, values}

-- ---- tokens

unfoldable pub at : TokenKind → List ℕ → Tok
at k text = record { kind = k; text = text; line = 1 }

exactly_fits_at : (n m : ℕ) (b : Bool) (a : Unit {0}) → eqb m n ≡ b → cond b (Some tt) None ≡ Some a → has (m ∷ []) n ≡ true
exactly_fits_at n m true a e h = rw e refl
exactly_fits_at n m false a e h = absurd cc

exactly_fits : (m : Terminal) (t : Tok) (a : Unit {0}) → exactly m t ≡ Some a → has (the m) (index t) ≡ true
exactly_fits m t a h = exactly_fits_at (index t) (code m) (eqb (code m) (index t)) a refl h

pub word_reads : (m : Terminal) (t0 : Tok) → exactly m t0 ≡ Some tt → (n : ℕ) → Reads n true index (Grammar.Word m) (Parsing.word m) (the m) false []
word_reads m t0 e n = one_reads index (exactly m) (the m) (exactly_fits m) t0 tt e n

line_fits_at : (n m line : ℕ) (b : Bool) (a : ℕ) → eqb m n ≡ b → cond b (Some line) None ≡ Some a → has (m ∷ []) n ≡ true
line_fits_at n m line true a e h = rw e refl
line_fits_at n m line false a e h = absurd cc

line_fits : (m : Terminal) (t : Tok) (a : ℕ) → line_at (code (terminal t)) (code m) t.line ≡ Some a → has (the m) (index t) ≡ true
line_fits m t a h = line_fits_at (index t) (code m) t.line (eqb (code m) (index t)) a refl h

pub word_line_reads : (m : Terminal) (t0 : Tok) (line : ℕ) → line_at (code (terminal t0)) (code m) t0.line ≡ Some line → (n : ℕ) → Reads n true index (Grammar.WordLine m) (Parsing.word_line m) (the m) false []
word_line_reads m t0 line e n = one_reads index (λ t. line_at (code (terminal t)) (code m) t.line) (the m) (line_fits m) t0 line e n

temp_fits : (k : TokenKind) (text : List ℕ) (line : ℕ) (a : ℕ × List ℕ) → temp_at k text line ≡ Some a → has (the terminals.Temp) (code (kind_terminal k text)) ≡ true
temp_fits kinds.Temp text line a h = refl
temp_fits _ text line a h = absurd cc

pub temp_reads : (n : ℕ) → Reads n true index Grammar.TempName Parsing.temp_name (the terminals.Temp) false []
unfolding at
temp_reads n = one_reads index (λ t. temp_at t.kind t.text t.line) (the terminals.Temp) (λ t a h. temp_fits t.kind t.text t.line a h) (at kinds.Temp (codes "%a")) (1, codes "a") refl n

label_fits : (k : TokenKind) (text : List ℕ) (line : ℕ) (a : ℕ × List ℕ) → label_at k text line ≡ Some a → has (the terminals.Label) (code (kind_terminal k text)) ≡ true
label_fits kinds.Label text line a h = refl
label_fits _ text line a h = absurd cc

pub label_reads : (n : ℕ) → Reads n true index Grammar.LabelName Parsing.label_name (the terminals.Label) false []
unfolding at
label_reads n = one_reads index (λ t. label_at t.kind t.text t.line) (the terminals.Label) (λ t a h. label_fits t.kind t.text t.line a h) (at kinds.Label (codes "@a")) (1, codes "a") refl n

global_fits : (k : TokenKind) (text : List ℕ) (line : ℕ) (a : ℕ × List ℕ) → global_at k text line ≡ Some a → has (the terminals.Global) (code (kind_terminal k text)) ≡ true
global_fits kinds.Global text line a h = refl
global_fits _ text line a h = absurd cc

pub global_reads : (n : ℕ) → Reads n true index Grammar.GlobalName Parsing.global_name (the terminals.Global) false []
unfolding at
global_reads n = one_reads index (λ t. global_at t.kind t.text t.line) (the terminals.Global) (λ t a h. global_fits t.kind t.text t.line a h) (at kinds.Global (codes "$a")) (1, codes "a") refl n

class_fits : (m : Terminal) (a : Class) → class_at m ≡ Some a → has classes (code m) ≡ true
class_fits terminals.W a h = refl
class_fits terminals.L a h = refl
class_fits _ a h = absurd cc

unfoldable pub a_word : List ℕ → Tok
a_word text = at kinds.Word text

pub class_reads : (n : ℕ) → Reads n true index Grammar.ClassWord Parsing.class_word classes false []
unfolding at a_word word_terminal
class_reads n = one_reads index (λ t. class_at (terminal t)) classes (λ t a h. class_fits (terminal t) a h) (a_word (codes "w")) the_classes.W refl n

val_fits : (k : TokenKind) (text : List ℕ) (a : Operand) → operand_at k text ≡ Some a → has values (code (kind_terminal k text)) ≡ true
val_fits kinds.Number text a h = refl
val_fits kinds.Global text a h = refl
val_fits kinds.Temp text a h = refl
val_fits _ text a h = absurd cc

pub val_reads : (n : ℕ) → Reads n true index Grammar.Val Parsing.val values false []
unfolding at
val_reads n = one_reads index (λ t. operand_at t.kind t.text) values (λ t a h. val_fits t.kind t.text a h) (at kinds.Temp (codes "%a")) (operands.Temp (codes "a")) refl n

sub_fits : (m : Terminal) (a : AbiType) → sub_at m ≡ Some a → has sub_words (code m) ≡ true
sub_fits terminals.Sb a h = refl
sub_fits terminals.Ub a h = refl
sub_fits terminals.Sh a h = refl
sub_fits terminals.Uh a h = refl
sub_fits _ a h = absurd cc

pub sub_reads : (n : ℕ) → Reads n true index Grammar.SubWord Parsing.sub_word sub_words false []
unfolding at a_word word_terminal
sub_reads n = one_reads index (λ t. sub_at (terminal t)) sub_words (λ t a h. sub_fits (terminal t) a h) (a_word (codes "sb")) the_types.Sb refl n

count_fits : (k : TokenKind) (text : List ℕ) (a : ℕ) → count_at k text ≡ Some a → has (the terminals.Number) (code (kind_terminal k text)) ≡ true
count_fits kinds.Number text a h = refl
count_fits _ text a h = absurd cc

pub count_reads : (n : ℕ) → Reads n true index Grammar.Count Parsing.count (the terminals.Number) false []
unfolding at
count_reads n = one_reads index (λ t. count_at t.kind t.text) (the terminals.Number) (λ t a h. count_fits t.kind t.text a h) (at kinds.Number (codes "0")) (number_value (codes "0")) refl n

unfoldable pub comma : Tok
comma = at kinds.Comma (codes ",")

unfoldable pub equals : Tok
equals = at kinds.Equals (codes "=")

unfoldable pub open_paren : Tok
open_paren = at kinds.OpenParen (codes "(")

unfoldable pub close_paren : Tok
close_paren = at kinds.CloseParen (codes ")")

unfoldable pub open_brace : Tok
open_brace = at kinds.OpenBrace (codes "{")

unfoldable pub close_brace : Tok
close_brace = at kinds.CloseBrace (codes "}")

unfoldable pub newline : Tok
newline = at kinds.Newline (10 ∷ [])

-- ---- productions

pub after_reads : {A : Type 0} {S : List Tok → A → Type 0} {r : List Tok → Read Tok A} {first more : List ℕ} {empty : Bool} {n : ℕ} {c : Bool} (m : Terminal) (t0 : Tok) → exactly m t0 ≡ Some tt → Reads n c index S r first empty more → Reads n c index (Grammar.After m S) (Parsing.after m r) (the m) false (more ++ when empty [])
after_reads {first = first} {n = n} m t0 e x = image_reads (λ v. v.1) (seq_reads (word_reads m t0 e n) x (apart_nil first))

pub before_reads : {A : Type 0} {S : List Tok → A → Type 0} {r : List Tok → Read Tok A} {first more : List ℕ} {empty : Bool} {n : ℕ} {c : Bool} (m : Terminal) (t0 : Tok) → exactly m t0 ≡ Some tt → apart (the m) more ≡ true → Reads n c index S r first empty more → Reads n (c && true) index (Grammar.Before S m) (Parsing.before r m) (first ++ when empty (the m)) (empty && false) []
before_reads {n = n} m t0 e far x = image_reads (λ v. v.0) (seq_reads x (word_reads m t0 e n) far)

pub perhaps_reads : {A : Type 0} {S : List Tok → A → Type 0} {r : List Tok → Read Tok A} {first more : List ℕ} {n : ℕ} {c : Bool} → Reads n c index S r first false more → Reads n (c && true) index (Grammar.Perhaps S) (Parsing.perhaps first r) (first ++ []) true (more ++ ([] ++ first))
perhaps_reads {first = first} {n = n} x = either_reads (image_reads Some x) (nothing_reads index n None) (apart_nil first)

pub listed_reads : {A : Type 0} {S : List Tok → A → Type 0} {r : List Tok → Read Tok A} {n : ℕ} → Reads n true index S r types false [] → Reads n true index (Grammar.Listed S) (Parsing.listed types r) types true (code terminals.Comma ∷ (types ++ types))
unfolding at comma
listed_reads {n = n} x = either_reads (image_reads Grammar.list_of (seq_reads x (tail_reads (word_reads terminals.Comma comma refl n) x refl) refl)) (nothing_reads index n []) refl

pub line_reads : (n : ℕ) → Reads n true index Grammar.Line Parsing.line (the terminals.Newline) true (the terminals.Newline)
unfolding at newline Parsing.line
line_reads n = image_reads (λ v. tt) (perhaps_reads (word_reads terminals.Newline newline refl n))

pub type_reads : (n : ℕ) → Reads n true index Grammar.TypeWord Parsing.type_word types false []
unfolding Parsing.type_word
type_reads n = either_reads (image_reads type_of (class_reads n)) (sub_reads n) refl

pub two_reads : (n : ℕ) → Reads n true index Grammar.Two Parsing.two values false []
unfolding at comma Parsing.two
two_reads n = seq_reads (before_reads terminals.Comma comma refl refl (val_reads n)) (val_reads n) refl

pub comma_reads : (n : ℕ) → Reads n true index (Grammar.Word terminals.Comma) (Parsing.word terminals.Comma) (the terminals.Comma) false []
unfolding at comma
comma_reads n = word_reads terminals.Comma comma refl n

pub comma_takes : Takes (Parsing.word terminals.Comma)
comma_takes = takes_by comma_reads
