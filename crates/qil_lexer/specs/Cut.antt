-- How a text is cut into gaps and tokens, and where it can't be.
use Rattle.std.specs.Prelude.{◌≡◌, ◌≢◌, ℕ, suc, ◌+◌, ◌-◌, ◌^◌, ◌<◌, ◌≤◌, ◌==◌, ◌⊎◌, false, List, [], ◌∷◌, length, take, drop, count_by, map, Some, None}
use Rattle.std.specs.Char.{is_ascii_digit}
use Rattle.qil_lexer.specs.declared.token.TokenKind.{TokenKind}
use Rattle.qil_lexer.specs.declared.token.TokenKind.TheVariants.{Global, Temp, Label, Aggregate, Number}
use Rattle.qil_lexer.specs.declared.token.Token.{Token}
use Rattle.qil_lexer.specs.declared.error.LexCode.{LexCode}
use Rattle.qil_lexer.specs.declared.error.LexCode.TheVariants.{L1, L2, L3, L4, L5, L6}
use Rattle.qil_lexer.specs.Shape.{is_spacing, is_name_byte, begins, IsGap, Items, IsUnended, IsBadEscape, IsInRange, first_kind, HasShape}

-- the first n bytes are a gap, and no longer prefix of the text is one
pub record IsLongestGap (n : ℕ) (text : List ℕ) : Type 0 where
  pub fits : n ≤ length text
  pub shape : IsGap (take n text)
  pub longest : (m : ℕ) → n < m → m ≤ length text → IsGap (take m text) → ⊥

-- the first n bytes have the shape of a token, and no longer prefix of the text has the shape of any token
pub record IsLongest (kind : TokenKind) (n : ℕ) (text : List ℕ) : Type 0 where
  pub fits : n ≤ length text
  pub shape : HasShape kind (take n text)
  pub longest : (other : TokenKind) (m : ℕ) → n < m → m ≤ length text → HasShape other (take m text) → ⊥

-- the line of a place: 1 plus the newlines before it
abbrev pub line_of : List ℕ → ℕ → ℕ
line_of text at = suc (count_by (λ b. b == 10) (take at text))

-- the bytes between two places are a gap, the longest there
pub record IsGapBetween (text : List ℕ) (from to : ℕ) : Type 0 where
  pub ordered : from ≤ to
  pub longest : IsLongestGap (to - from) (drop from text)

-- the token stands in the text at its start, the longest piece there, on its line
pub record IsTokenOf (text : List ℕ) (token : Token) : Type 0 where
  pub longest : IsLongest token.kind (length token.text.now) (drop token.start text)
  pub slice : token.text.now ≡ take (length token.text.now) (drop token.start text)
  pub line : token.line ≡ line_of text token.start
  pub in_range : token.kind ≡ Number → IsInRange token.text.now

-- what a token's bytes show of themselves
pub record IsShaped (token : Token) : Type 0 where
  pub shape : HasShape token.kind token.text.now
  pub in_range : token.kind ≡ Number → IsInRange token.text.now

-- the place after a token
abbrev pub end_of : Token → ℕ
end_of token = token.start + length token.text.now

-- from one place to the other the text is gaps and these tokens in turn
abbrev pub CutsBetween : List ℕ → ℕ → List Token → ℕ → Type 0
CutsBetween text from [] to = IsGapBetween text from to
CutsBetween text from (t ∷ ts) to = IsGapBetween text from t.start × IsTokenOf text t × CutsBetween text (end_of t) ts to

abbrev pub Cuts : List ℕ → List Token → Type 0
Cuts text ts = CutsBetween text 0 ts (length text)

-- what a token says, apart from where its text lies in memory
pub record TokenContent : Type 0 where
  pub kind : TokenKind
  pub bytes : List ℕ
  pub start : ℕ
  pub line : ℕ

abbrev pub content_of : Token → TokenContent
content_of t = record { kind = t.kind; bytes = t.text.now; start = t.start; line = t.line }

-- the tokens say the same
abbrev pub SameTokens : List Token → List Token → Type 0
SameTokens ts us = map content_of ts ≡ map content_of us

-- ---- where no token begins

abbrev pub IsSigil : ℕ → Type 0
IsSigil b = (((first_kind b ≡ Some Global) ⊎ (first_kind b ≡ Some Temp)) ⊎ (first_kind b ≡ Some Label)) ⊎ (first_kind b ≡ Some Aggregate)

-- what is at the start of the text begins no token, spacing or comment, for the reason of that code
abbrev pub Fails : LexCode → List ℕ → Type 0
Fails code [] = ⊥
Fails L1 (b ∷ bytes) = (((first_kind b ≡ None) × (is_spacing b ≡ false) × (b ≢ 35))
    ⊎ ((b ≡ 45) × (begins is_ascii_digit bytes ≡ false)))
    ⊎ ((b ≡ 46) × (take 2 bytes ≢ 46 ∷ 46 ∷ []))
Fails L2 (b ∷ bytes) = IsSigil b × (begins is_name_byte bytes ≡ false)
Fails L3 (b ∷ bytes) = (n : ℕ) × IsLongest Number n (b ∷ bytes) × (IsInRange (take n (b ∷ bytes)) → ⊥)
Fails L4 (b ∷ bytes) = (b ≡ 34) × (n : ℕ) × (rest : List ℕ) × Items n bytes rest × IsUnended rest
Fails L5 (b ∷ bytes) = (b ≡ 34) × (n : ℕ) × (rest : List ℕ) × Items n bytes rest × IsBadEscape rest
Fails L6 (b ∷ bytes) = ⊥

-- the text is cut up to a place, and what stands there fails
pub record FailsAt (text : List ℕ) (code : LexCode) (line : ℕ) : Type 0 where
  pub before : List Token
  pub at : ℕ
  pub cut : CutsBetween text 0 before at
  pub fails : Fails code (drop at text)
  pub line_is : line ≡ line_of text at

-- the backslash of the first bad escape in the string whose opening quote is at that place
pub record IsBackslash (text : List ℕ) (quote place : ℕ) : Type 0 where
  pub behind : quote < place
  pub items : (n : ℕ) × Items n (drop (quote + 1) text) (drop place text)
  pub bad : IsBadEscape (drop place text)

-- too long, or else the first place that fails
abbrev pub TextFault : List ℕ → LexCode → ℕ → Type 0
TextFault text code line = ((2 ^ 20 < length text) × (code ≡ L6) × (line ≡ 1))
    ⊎ ((length text ≤ 2 ^ 20) × FailsAt text code line)
