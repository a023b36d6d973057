-- Data in the grammar: which tokens spell a data definition. Newlines between its tokens say nothing.
use Rattle.std.specs.Prelude.{◌≡◌, ℕ, List, [], ◌∷◌, Option, Some, None}
use Rattle.qil_lexer.specs.declared.token.TokenKind.{TokenKind}
use Rattle.qil_lexer.specs.declared.token.TokenKind.TheVariants as kinds
use Rattle.qil_lexer.specs.Shape.{number_value, StringBytes}
use Rattle.qil_language.specs.Language.{One, Nothing, Seq, Image, Either, Many, Tail}
use Rattle.qil_language.specs.Reading.{cons_of}
use Rattle.qil_parser.specs.declared.terminal.Terminal.{Terminal}
use Rattle.qil_parser.specs.declared.terminal.Terminal.TheVariants as terminals
use Rattle.qil_tree.specs.declared.ops.Width.{Width}
use Rattle.qil_tree.specs.declared.ops.Width.TheVariants as widths
use Rattle.qil_tree.specs.declared.tree.Item.{Item}
use Rattle.qil_tree.specs.declared.tree.Item.TheVariants as items
use Rattle.qil_tree.specs.declared.tree.Field.{Field}
use Rattle.qil_tree.specs.declared.tree.Field.TheVariants as fields
use Rattle.qil_tree.specs.declared.tree.Data.{Data}
use Rattle.qil_parser.specs.Token.{Tok}
use Rattle.qil_parser.specs.Grammar.{Word, GlobalName, Count, Before, Perhaps}

-- ---- tokens

abbrev pub constant_at : TokenKind → List ℕ → Option ℕ
constant_at kinds.Number text = Some (number_value text)
constant_at _ text = None

-- NUMBER, as its 64 bits
abbrev pub Constant : List Tok → ℕ → Type 0
Constant = One (λ t. constant_at t.kind t.text)

-- STRING, as the bytes that it represents
pub record StringLiteral (ts : List Tok) (bytes : List ℕ) : Type 0 where
  pub token : Tok
  pub alone : ts ≡ token ∷ []
  pub quoted : token.kind ≡ kinds.Quoted
  pub means : StringBytes token.text bytes

-- ---- what may have newlines after it

-- any newlines
abbrev pub Newlines : List Tok → Unit {0} → Type 0
Newlines = Image (λ v. tt) (Many (Word terminals.Newline))

-- a token, and any newlines
abbrev pub Loose : {A : Type 0} → (List Tok → A → Type 0) → List Tok → A → Type 0
Loose S = Image (λ v. v.0) (Seq S Newlines)

-- a word that says nothing more, before a phrase
abbrev pub LooseAfter : {A : Type 0} → Terminal → (List Tok → A → Type 0) → List Tok → A → Type 0
LooseAfter m S = Image (λ v. v.1) (Seq (Loose (Word m)) S)

-- ---- productions

-- phrase+
abbrev pub Several : {A : Type 0} → (List Tok → A → Type 0) → List Tok → List A → Type 0
Several S = Image cons_of (Seq S (Many S))

-- NUMBER
abbrev pub NumberItem : {A : Type 0} → List Tok → Item A → Type 0
NumberItem = Image items.Number (Loose Constant)

-- STRING
abbrev pub TextItem : {A : Type 0} → List Tok → Item A → Type 0
TextItem = Image items.Text (Loose StringLiteral)

-- ( "+" N )?
abbrev pub Offset : List Tok → ℕ → Type 0
Offset = Either (LooseAfter terminals.Plus (Loose Count)) (Nothing 0)

abbrev pub address_of : {A : Type 0} → (ℕ × List ℕ) × ℕ → Item A
address_of v = items.Address v.0.1 v.1

-- GLOBAL ( "+" N )?
abbrev pub AddressItem : {A : Type 0} → List Tok → Item A → Type 0
AddressItem = Image address_of (Seq (Loose GlobalName) Offset)

-- what may stand in a field of that width: strings after b only, addresses after l only
abbrev pub ItemOf : {A : Type 0} → Width → List Tok → Item A → Type 0
ItemOf widths.B = Either NumberItem TextItem
ItemOf widths.H = NumberItem
ItemOf widths.W = NumberItem
ItemOf widths.L = Either NumberItem AddressItem

abbrev pub width_mark : Width → Terminal
width_mark widths.B = terminals.B
width_mark widths.H = terminals.H
width_mark widths.W = terminals.W
width_mark widths.L = terminals.L

-- the word of the width, and item+
abbrev pub Values : {A : Type 0} → Width → List Tok → Field A → Type 0
Values w = Image (fields.Values w) (LooseAfter (width_mark w) (Several (ItemOf w)))

-- "z" N
abbrev pub Zeros : {A : Type 0} → List Tok → Field A → Type 0
Zeros = Image fields.Zeros (LooseAfter terminals.Z (Loose Count))

-- ( "b" | "h" | "w" | "l" ) item+  |  "z" N
abbrev pub FieldOf : {A : Type 0} → List Tok → Field A → Type 0
FieldOf = Either (Values widths.B) (Either (Values widths.H) (Either (Values widths.W) (Either (Values widths.L) Zeros)))

-- ( field ( "," field )* ","? )?
abbrev pub Fields : {A : Type 0} → List Tok → List (Field A) → Type 0
Fields = Either (Image cons_of (Seq FieldOf (Tail (Loose (Word terminals.Comma)) FieldOf))) (Nothing [])

-- ( "align" N )?
abbrev pub Alignment : List Tok → Option ℕ → Type 0
Alignment = Perhaps (LooseAfter terminals.Align (Loose Count))

abbrev pub data_of : {A : Type 0} → (ℕ × List ℕ) × (Option ℕ × List (Field A)) → Data A
data_of v = record { name = v.0.1; line = v.0.0; align = v.1.0; fields = v.1.1 }

-- ( "align" N )? "{" fields "}"
abbrev pub Inside : {A : Type 0} → List Tok → Option ℕ × List (Field A) → Type 0
Inside = Seq Alignment (LooseAfter terminals.OpenBrace (Before Fields terminals.CloseBrace))

-- "data" GLOBAL "=" inside
abbrev pub DataOf : {A : Type 0} → List Tok → Data A → Type 0
DataOf = Image data_of (LooseAfter terminals.Data (Seq (Loose GlobalName) (LooseAfter terminals.Equals Inside)))
