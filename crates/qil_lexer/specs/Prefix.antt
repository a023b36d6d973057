-- What the parts of the lexer say of the prefix of a text.
use Rattle.std.specs.Prelude.{◌≡◌, ◌≢◌, ◌⊎◌, ℕ, suc, ◌<◌, ◌≤◌, true, false, List, [], ◌∷◌, ◌++◌, length, take, if◌then◌else◌, ◌==◌, Option, Some, None}
use Rattle.std.specs.List.{prefix_len}
use Rattle.std.specs.Char.{is_ascii_digit}
use Rattle.qil_lexer.specs.declared.token.TokenKind.{TokenKind}
use Rattle.qil_lexer.specs.declared.token.TokenKind.TheVariants.{Number, Quoted, Dots}
use Rattle.qil_lexer.specs.declared.error.LexCode.{LexCode}
use Rattle.qil_lexer.specs.declared.error.LexCode.TheVariants.{L1, L2, L3, L4, L5, L6}
use Rattle.qil_lexer.specs.Shape.{is_spacing, is_in_line, IsGap, ended, IsInRange, HasTail, IsUnended, IsBadEscape}
use Rattle.qil_lexer.specs.Cut.{IsLongest, Fails}

-- the length of the comment at the start, 0 where none is
abbrev pub comment_len : List ℕ → ℕ
comment_len [] = 0
comment_len (b ∷ bytes) = if b == 35 then suc (prefix_len is_in_line bytes) else 0

-- the first n bytes after a token's first are the rest of it, and no longer prefix of them is
pub record IsLongestTail (kind : TokenKind) (b n : ℕ) (tail : List ℕ) : Type 0 where
  pub fits : n ≤ length tail
  pub shape : HasTail kind b (take n tail)
  pub longest : (m : ℕ) → n < m → m ≤ length tail → HasTail kind b (take m tail) → ⊥

abbrev pub TailFails : LexCode → ℕ → List ℕ → Type 0
TailFails code b tail = Fails code (b ∷ tail)

-- the first n bytes are a gap with its newline
abbrev pub IsLine : ℕ → List ℕ → Type 0
IsLine n bytes = (n ≤ length bytes) × (0 < n) × (gap : List ℕ) × IsGap gap × (take n bytes ≡ ended gap)

-- no prefix is a gap with its newline
abbrev pub NoLine : List ℕ → Type 0
NoLine bytes = (gap rest : List ℕ) → IsGap gap → bytes ≡ ended gap ++ rest → ⊥

-- no gap is at the start
abbrev pub BeginsNoGap : List ℕ → Type 0
BeginsNoGap [] = Unit {0}
BeginsNoGap (b ∷ bytes) = (is_spacing b ≡ false) × (b ≢ 35)

-- the longest token at the start, a number in range
pub record IsPrefixToken (kind : TokenKind) (n : ℕ) (text : List ℕ) : Type 0 where
  pub longest : IsLongest kind n text
  pub in_range : kind ≡ Number → IsInRange (take n text)

-- the closing quote stands there
abbrev pub IsClosed : List ℕ → Type 0
IsClosed [] = ⊥
IsClosed (b ∷ bytes) = b ≡ 34

-- the string doesn't close there
abbrev pub StopFails : LexCode → List ℕ → Type 0
StopFails L1 bytes = ⊥
StopFails L2 bytes = ⊥
StopFails L3 bytes = ⊥
StopFails L4 bytes = IsUnended bytes
StopFails L5 bytes = IsBadEscape bytes
StopFails L6 bytes = ⊥

-- what the kinds say of their first byte, as far as the lexer asks
abbrev pub IsByteOf : TokenKind → ℕ → Type 0
IsByteOf Quoted b = b ≡ 34
IsByteOf Dots b = b ≡ 46
IsByteOf Number b = (b ≡ 45) ⊎ (is_ascii_digit b ≡ true)
IsByteOf kind b = Unit {0}

-- the token at the start, or the end of the text
abbrev pub IsPrefixHere : Option (TokenKind × ℕ) → List ℕ → Type 0
IsPrefixHere None bytes = bytes ≡ []
IsPrefixHere (Some found) bytes = IsPrefixToken found.0 found.1 bytes
