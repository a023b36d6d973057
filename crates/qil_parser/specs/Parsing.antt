-- The phrases of the grammar read from left to right.
use Rattle.std.specs.Prelude.{ℕ, List, [], ◌∷◌, Option, Some, None}
use Rattle.qil_language.specs.Reading.{Read, one, nothing, seq, image, either, tail}
use Rattle.qil_parser.specs.declared.terminal.Terminal.{Terminal}
use Rattle.qil_parser.specs.declared.terminal.Terminal.TheVariants as terminals
use Rattle.qil_tree.specs.declared.ops.Class.{Class}
use Rattle.qil_tree.specs.declared.ops.AbiType.{AbiType}
use Rattle.qil_tree.specs.declared.tree.Operand.{Operand}
use Rattle.qil_parser.specs.Token.{Tok, terminal, code, index}
use Rattle.qil_parser.specs.Grammar.{exactly, line_at, temp_at, label_at, global_at, class_at, sub_at, operand_at, count_at, list_of}
use Rattle.qil_tree.specs.Types.{type_of}

-- the tokens of one mark
abbrev pub the : Terminal → List ℕ
the m = code m ∷ []

abbrev pub classes : List ℕ
classes = code terminals.W ∷ code terminals.L ∷ []

abbrev pub sub_words : List ℕ
sub_words = code terminals.Sb ∷ code terminals.Ub ∷ code terminals.Sh ∷ code terminals.Uh ∷ []

abbrev pub types : List ℕ
types = code terminals.W ∷ code terminals.L ∷ sub_words

abbrev pub values : List ℕ
values = code terminals.Number ∷ code terminals.Global ∷ code terminals.Temp ∷ []

abbrev pub word : Terminal → List Tok → Read Tok (Unit {0})
word m = one (exactly m)

abbrev pub word_line : Terminal → List Tok → Read Tok ℕ
word_line m = one (λ t. line_at (code (terminal t)) (code m) t.line)

abbrev pub temp_name : List Tok → Read Tok (ℕ × List ℕ)
temp_name = one (λ t. temp_at t.kind t.text t.line)

abbrev pub label_name : List Tok → Read Tok (ℕ × List ℕ)
label_name = one (λ t. label_at t.kind t.text t.line)

abbrev pub global_name : List Tok → Read Tok (ℕ × List ℕ)
global_name = one (λ t. global_at t.kind t.text t.line)

abbrev pub class_word : List Tok → Read Tok Class
class_word = one (λ t. class_at (terminal t))

abbrev pub sub_word : List Tok → Read Tok AbiType
sub_word = one (λ t. sub_at (terminal t))

abbrev pub val : List Tok → Read Tok Operand
val = one (λ t. operand_at t.kind t.text)

abbrev pub count : List Tok → Read Tok ℕ
count = one (λ t. count_at t.kind t.text)

abbrev pub after : {A : Type 0} → Terminal → (List Tok → Read Tok A) → List Tok → Read Tok A
after m r = image (λ v. v.1) (seq (word m) r)

abbrev pub before : {A : Type 0} → (List Tok → Read Tok A) → Terminal → List Tok → Read Tok A
before r m = image (λ v. v.0) (seq r (word m))

abbrev pub perhaps : {A : Type 0} → List ℕ → (List Tok → Read Tok A) → List Tok → Read Tok (Option A)
perhaps set r = either index set (image Some r) (nothing None)

abbrev pub listed : {A : Type 0} → List ℕ → (List Tok → Read Tok A) → List Tok → Read Tok (List A)
listed set r = either index set (image list_of (seq r (tail index (the terminals.Comma) set (word terminals.Comma) r))) (nothing [])

unfoldable pub line : List Tok → Read Tok (Unit {0})
line = image (λ v. tt) (perhaps (the terminals.Newline) (word terminals.Newline))

unfoldable pub type_word : List Tok → Read Tok AbiType
type_word = either index classes (image type_of class_word) sub_word

unfoldable pub two : List Tok → Read Tok (Operand × Operand)
two = seq (before val terminals.Comma) val

-- the mark of the next token
abbrev pub next_terminal : List Tok → Terminal
next_terminal [] = terminals.Other
next_terminal (t ∷ ts) = terminal t
