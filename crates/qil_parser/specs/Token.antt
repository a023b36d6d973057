-- What a token is to the grammar.
use Rattle.std.specs.Prelude.{◌≡◌, ℕ, List, [], ◌∷◌, map}
use Rattle.qil_lexer.specs.declared.token.TokenKind.{TokenKind}
use Rattle.qil_lexer.specs.declared.token.TokenKind.TheVariants as kinds
use Rattle.qil_lexer.specs.declared.token.Token.{Token}
use Rattle.qil_lexer.specs.Shape.{HasShape, IsInRange}
use Rattle.qil_parser.specs.declared.terminal.Terminal.{Terminal}
use Rattle.qil_parser.specs.declared.terminal.Terminal.TheVariants as terminals
use Rattle.qil_parser.specs.Words.{word_terminal}

-- a token without where it stands in the text
pub record Tok : Type 0 where
  pub kind : TokenKind
  pub text : List ℕ
  pub line : ℕ

abbrev pub tok : Token → Tok
tok t = record { kind = t.kind; text = t.text.now; line = t.line }

abbrev pub seen : List Token → List Tok
seen ts = map tok ts

-- the number tokens are numbers of 64 bits
abbrev pub HasNumbers : List Token → Type 0
HasNumbers [] = Unit {0}
HasNumbers (t ∷ ts) = (t.kind ≡ kinds.Number → HasShape kinds.Number t.text.now × IsInRange t.text.now) × HasNumbers ts

-- the string tokens are closed strings
abbrev pub HasStrings : List Token → Type 0
HasStrings [] = Unit {0}
HasStrings (t ∷ ts) = (t.kind ≡ kinds.Quoted → HasShape kinds.Quoted t.text.now) × HasStrings ts

abbrev pub kind_terminal : TokenKind → List ℕ → Terminal
kind_terminal kinds.Global text = terminals.Global
kind_terminal kinds.Temp text = terminals.Temp
kind_terminal kinds.Label text = terminals.Label
kind_terminal kinds.Aggregate text = terminals.Other
kind_terminal kinds.Word text = word_terminal text
kind_terminal kinds.Number text = terminals.Number
kind_terminal kinds.Quoted text = terminals.Quoted
kind_terminal kinds.Comma text = terminals.Comma
kind_terminal kinds.Equals text = terminals.Equals
kind_terminal kinds.OpenBrace text = terminals.OpenBrace
kind_terminal kinds.CloseBrace text = terminals.CloseBrace
kind_terminal kinds.OpenParen text = terminals.OpenParen
kind_terminal kinds.CloseParen text = terminals.CloseParen
kind_terminal kinds.Plus text = terminals.Plus
kind_terminal kinds.Dots text = terminals.Other
kind_terminal kinds.Newline text = terminals.Newline

abbrev pub terminal : Tok → Terminal
terminal t = kind_terminal t.kind t.text

-- a number for each mark, the same for all operations of one shape
abbrev pub code : Terminal → ℕ
code terminals.Global = 0
code terminals.Temp = 1
code terminals.Label = 2
code terminals.Number = 3
code terminals.Comma = 4
code terminals.Equals = 5
code terminals.OpenBrace = 6
code terminals.CloseBrace = 7
code terminals.OpenParen = 8
code terminals.CloseParen = 9
code terminals.Newline = 10
code terminals.Function = 11
code terminals.W = 12
code terminals.L = 13
code terminals.Sb = 14
code terminals.Ub = 15
code terminals.Sh = 16
code terminals.Uh = 17
code (terminals.Unary op) = 18
code (terminals.Binary op) = 19
code (terminals.Compare op c) = 20
code (terminals.Extend op) = 21
code (terminals.Load op) = 22
code (terminals.Alloc op) = 23
code (terminals.Store width) = 24
code terminals.Blit = 25
code terminals.Call = 26
code terminals.Phi = 27
code terminals.Jmp = 28
code terminals.Jnz = 29
code terminals.Ret = 30
code terminals.Hlt = 31
code terminals.Other = 32
code terminals.Data = 33
code terminals.Align = 34
code terminals.Z = 35
code terminals.B = 36
code terminals.H = 37
code terminals.Export = 38
code terminals.Section = 39
code terminals.Plus = 40
code terminals.Quoted = 41

abbrev pub index : Tok → ℕ
index t = code (terminal t)
