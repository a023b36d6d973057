-- One step of the lexer from one place of the text to another.
use Rattle.std.specs.Prelude.{◌≡◌, ℕ, ◌+◌, List, length, drop, Option, Some, None, Result, Ok, Err}
use Rattle.qil_lexer.specs.declared.token.Token.{Token}
use Rattle.qil_lexer.specs.declared.error.LexCode.{LexCode}
use Rattle.qil_lexer.specs.declared.error.LexError.{LexError}
use Rattle.qil_lexer.specs.declared.error.LexError.TheVariants.{Refused, OutOfMemory}
use Rattle.qil_lexer.specs.Cut.{line_of, IsGapBetween, IsTokenOf, end_of, Fails}

-- a gap and the token after it
pub record IsStep (text : List ℕ) (from to : ℕ) (token : Token) : Type 0 where
  pub gap : IsGapBetween text from token.start
  pub token_of : IsTokenOf text token
  pub ends : to ≡ end_of token

-- a gap, and what fails after it
pub record FailsAfter (text : List ℕ) (from : ℕ) (code : LexCode) (line : ℕ) : Type 0 where
  pub at : ℕ
  pub gap : IsGapBetween text from at
  pub fails : Fails code (drop at text)
  pub line_is : line ≡ line_of text at

-- what the next token's call answers
abbrev pub IsNext : List ℕ → ℕ → ℕ → Result (Option Token) LexError → Type 0
IsNext text from to (Ok (Some token)) = IsStep text from to token
IsNext text from to (Ok None) = IsGapBetween text from (length text)
IsNext text from to (Err (Refused code line)) = FailsAfter text from code line
IsNext text from to (Err OutOfMemory) = ⊥

-- the refusal, unless memory ran out
abbrev pub IfRefused : LexError → (LexCode → ℕ → Type 0) → Type 0
IfRefused (Refused code line) P = P code line
IfRefused OutOfMemory P = Unit {0}

-- the token's text is the part of the source at its start: the same block, that many bytes on
abbrev pub LiesIn : ℕ → ℕ → Token → Type 0
LiesIn block offset t = (t.text.ref_ptr.0 ≡ block) × (t.text.ref_ptr.1 ≡ offset + t.start)
