-- The grammar of tokens, and the ways to put phrases together.
use Rattle.std.specs.Prelude.{ℕ, Bool, false, List, [], ◌∷◌, drop, Option, Some, None, ◌==◌, if◌then◌else◌}
use Rattle.qil_lexer.specs.declared.token.TokenKind.{TokenKind}
use Rattle.qil_lexer.specs.declared.token.TokenKind.TheVariants as kinds
use Rattle.qil_lexer.specs.Shape.{number_value}
use Rattle.qil_language.specs.Language.{One, Nothing, Seq, Image, Either, Tail}
use Rattle.qil_parser.specs.declared.terminal.Terminal.{Terminal}
use Rattle.qil_parser.specs.declared.terminal.Terminal.TheVariants as terminals
use Rattle.qil_tree.specs.declared.ops.Class.{Class}
use Rattle.qil_tree.specs.declared.ops.Class.TheVariants as classes
use Rattle.qil_tree.specs.declared.ops.AbiType.{AbiType}
use Rattle.qil_tree.specs.declared.ops.AbiType.TheVariants as types
use Rattle.qil_tree.specs.declared.tree.Operand.{Operand}
use Rattle.qil_tree.specs.declared.tree.Operand.TheVariants as operands
use Rattle.qil_tree.specs.Types.{type_of}
use Rattle.qil_parser.specs.Token.{Tok, terminal, code}

-- ---- tokens: what one represents

abbrev pub exactly_at : ℕ → ℕ → Option (Unit {0})
exactly_at n m = if m == n then Some tt else None

abbrev pub line_at : ℕ → ℕ → ℕ → Option ℕ
line_at n m line = if m == n then Some line else None

abbrev pub temp_at : TokenKind → List ℕ → ℕ → Option (ℕ × List ℕ)
temp_at kinds.Temp text line = Some (line, drop 1 text)
temp_at _ text line = None

abbrev pub label_at : TokenKind → List ℕ → ℕ → Option (ℕ × List ℕ)
label_at kinds.Label text line = Some (line, drop 1 text)
label_at _ text line = None

abbrev pub global_at : TokenKind → List ℕ → ℕ → Option (ℕ × List ℕ)
global_at kinds.Global text line = Some (line, drop 1 text)
global_at _ text line = None

abbrev pub class_at : Terminal → Option Class
class_at terminals.W = Some classes.W
class_at terminals.L = Some classes.L
class_at _ = None

abbrev pub sub_at : Terminal → Option AbiType
sub_at terminals.Sb = Some types.Sb
sub_at terminals.Ub = Some types.Ub
sub_at terminals.Sh = Some types.Sh
sub_at terminals.Uh = Some types.Uh
sub_at _ = None

abbrev pub operand_at : TokenKind → List ℕ → Option Operand
operand_at kinds.Number text = Some (operands.Number (number_value text))
operand_at kinds.Global text = Some (operands.Global (drop 1 text))
operand_at kinds.Temp text = Some (operands.Temp (drop 1 text))
operand_at _ text = None

-- whether a number is written with a sign
abbrev pub is_signed : List ℕ → Bool
is_signed [] = false
is_signed (b ∷ digits) = b == 45

abbrev pub count_at : TokenKind → List ℕ → Option ℕ
count_at kinds.Number text = if is_signed text then None else Some (number_value text)
count_at _ text = None

abbrev pub exactly : Terminal → Tok → Option (Unit {0})
exactly m t = exactly_at (code (terminal t)) (code m)

-- a word that says nothing but itself
abbrev pub Word : Terminal → List Tok → Unit {0} → Type 0
Word m = One (exactly m)

-- such a word, with its line
abbrev pub WordLine : Terminal → List Tok → ℕ → Type 0
WordLine m = One (λ t. line_at (code (terminal t)) (code m) t.line)

-- names, with their lines
abbrev pub TempName : List Tok → ℕ × List ℕ → Type 0
TempName = One (λ t. temp_at t.kind t.text t.line)

abbrev pub LabelName : List Tok → ℕ × List ℕ → Type 0
LabelName = One (λ t. label_at t.kind t.text t.line)

abbrev pub GlobalName : List Tok → ℕ × List ℕ → Type 0
GlobalName = One (λ t. global_at t.kind t.text t.line)

-- "w" | "l"
abbrev pub ClassWord : List Tok → Class → Type 0
ClassWord = One (λ t. class_at (terminal t))

-- "sb" | "ub" | "sh" | "uh"
abbrev pub SubWord : List Tok → AbiType → Type 0
SubWord = One (λ t. sub_at (terminal t))

-- NUMBER | GLOBAL | TEMP
abbrev pub Val : List Tok → Operand → Type 0
Val = One (λ t. operand_at t.kind t.text)

-- a NUMBER without sign
abbrev pub Count : List Tok → ℕ → Type 0
Count = One (λ t. count_at t.kind t.text)

-- ---- phrases

-- a word that says nothing more, before or after a phrase
abbrev pub After : {A : Type 0} → Terminal → (List Tok → A → Type 0) → List Tok → A → Type 0
After m S = Image (λ v. v.1) (Seq (Word m) S)

abbrev pub Before : {A : Type 0} → (List Tok → A → Type 0) → Terminal → List Tok → A → Type 0
Before S m = Image (λ v. v.0) (Seq S (Word m))

-- phrase?
abbrev pub Perhaps : {A : Type 0} → (List Tok → A → Type 0) → List Tok → Option A → Type 0
Perhaps S = Either (Image Some S) (Nothing None)

abbrev pub list_of : {A : Type 0} → A × List A → List A
list_of v = v.0 ∷ v.1

-- ( phrase ( "," phrase )* ","? )?
abbrev pub Listed : {A : Type 0} → (List Tok → A → Type 0) → List Tok → List A → Type 0
Listed S = Either (Image list_of (Seq S (Tail (Word terminals.Comma) S))) (Nothing [])

-- NL?
abbrev pub Line : List Tok → Unit {0} → Type 0
Line = Image (λ v. tt) (Perhaps (Word terminals.Newline))

-- class | "sb" | "ub" | "sh" | "uh"
abbrev pub TypeWord : List Tok → AbiType → Type 0
TypeWord = Either (Image type_of ClassWord) SubWord

-- val "," val
abbrev pub Two : List Tok → Operand × Operand → Type 0
Two = Seq (Before Val terminals.Comma) Val
