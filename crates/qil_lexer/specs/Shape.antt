-- What tokens, gaps and the insides of strings look like, on lists of bytes.
use Rattle.std.specs.Prelude.{◌≡◌, ℕ, zero, suc, ◌+◌, ◌*◌, ◌-◌, ◌%◌, ◌^◌, ◌<◌, ◌≤◌, ◌==◌, ◌||◌, ◌&&◌, ◌⊎◌, not, Bool, true, false, List, [], ◌∷◌, ◌++◌, length, take, drop, get_or, fold, if◌then◌else◌, nat_lt, Option, Some, None, option_map, MatchBool}
use Rattle.std.specs.List.{AllByRecursion, flat_map, take_while}
use Rattle.std.specs.Char.{is_ascii_digit, is_ascii_alphabetic}
use Rattle.qil_lexer.specs.declared.token.TokenKind.{TokenKind}
use Rattle.qil_lexer.specs.declared.token.TokenKind.TheVariants.{Global, Temp, Label, Aggregate, Word, Number, Quoted, Comma, Equals, OpenBrace, CloseBrace, OpenParen, CloseParen, Plus, Dots, Newline}

-- ---- bytes

-- a space, a tab or byte 13
abbrev pub is_spacing : ℕ → Bool
is_spacing b = (b == 32 || b == 9) || b == 13

-- a letter, a digit, '.', '_' or '$'
abbrev pub is_name_byte : ℕ → Bool
is_name_byte b = (((is_ascii_alphabetic b || is_ascii_digit b) || b == 46) || b == 95) || b == 36

-- a letter, a digit, '_' or '.'
abbrev pub is_word_byte : ℕ → Bool
is_word_byte b = ((is_ascii_alphabetic b || is_ascii_digit b) || b == 95) || b == 46

-- any byte but a newline
abbrev pub is_in_line : ℕ → Bool
is_in_line b = not (b == 10)

abbrev pub is_octal : ℕ → Bool
is_octal b = nat_lt 47 b && nat_lt b 56

-- the bytes all pass a test
abbrev pub Are : (ℕ → Bool) → List ℕ → Type 0
Are p bytes = AllByRecursion (λ b. p b ≡ true) bytes

-- the first byte, if there is one, passes a test
abbrev pub begins : (ℕ → Bool) → List ℕ → Bool
begins p [] = false
begins p (b ∷ bytes) = p b

-- ---- gaps

-- spacing, and then a comment or nothing; a comment is '#' and bytes of its line
abbrev pub IsGap : List ℕ → Type 0
IsGap [] = Unit {0}
IsGap (b ∷ bytes) = ((is_spacing b ≡ true) × IsGap bytes) ⊎ ((b ≡ 35) × Are is_in_line bytes)

-- a gap and the newline that ends it
abbrev pub ended : List ℕ → List ℕ
ended gap = gap ++ 10 ∷ []

-- ---- the inside of a string

-- the letters of escapes: b f n r t, the backslash and the quote
abbrev pub is_escape_letter : ℕ → Bool
is_escape_letter b = ((((((b == 98 || b == 102) || b == 110) || b == 114) || b == 116) || b == 92) || b == 34)

-- as many octal digits as follow, at most three
abbrev pub octals : List ℕ → List ℕ
octals bytes = take_while is_octal (take 3 bytes)

abbrev pub octal_value : List ℕ → ℕ
octal_value digits = fold (λ v d. v * 8 + (d - 48)) 0 digits

-- how many bytes after a backslash belong to it, if an escape stands there
unfoldable pub escape_len : List ℕ → Option ℕ
escape_len bytes =
    if begins is_escape_letter bytes then Some 1
    else (if begins is_octal bytes && nat_lt (octal_value (octals bytes)) 256 then Some (length (octals bytes)) else None)

-- how many bytes the item at the start takes: a byte that represents itself, or an escape
unfoldable pub item_len : List ℕ → Option ℕ
item_len [] = None
item_len (b ∷ bytes) =
    if b == 92 then option_map (λ n. suc n) (escape_len bytes)
    else (if b == 10 || b == 34 then None else Some 1)

-- the bytes are this many items, and then the rest
abbrev pub Items : ℕ → List ℕ → List ℕ → Type 0
Items zero bytes rest = bytes ≡ rest
Items (suc n) bytes rest = (len : ℕ) × (item_len bytes ≡ Some len) × Items n (drop len bytes) rest

-- the byte that an escape's letter represents: itself, but for b f n r t
abbrev pub letter_value : ℕ → ℕ
letter_value b =
    if b == 98 then 8
    else (if b == 102 then 12
    else (if b == 110 then 10
    else (if b == 114 then 13
    else (if b == 116 then 9
    else b))))

-- the byte that the escape after a backslash represents
unfoldable pub escape_value : List ℕ → ℕ
escape_value bytes = if begins is_octal bytes then octal_value (octals bytes) else letter_value (get_or bytes 0 0)

-- the byte that the item at the start represents
unfoldable pub item_value : List ℕ → ℕ
item_value [] = 0
item_value (b ∷ bytes) = if b == 92 then escape_value bytes else b

-- the bytes are one item for each of these values, and then the rest
abbrev pub ItemValues : List ℕ → List ℕ → List ℕ → Type 0
ItemValues [] bytes rest = bytes ≡ rest
ItemValues (value ∷ values) bytes rest =
    (len : ℕ) × (item_len bytes ≡ Some len) × (item_value bytes ≡ value) × ItemValues values (drop len bytes) rest

-- the string represents these bytes: one for each item between its quotes
abbrev pub StringBytes : List ℕ → List ℕ → Type 0
StringBytes text values = ItemValues values (drop 1 text) (34 ∷ [])

-- the end of the text or of the line, also right after a backslash
abbrev pub IsUnended : List ℕ → Type 0
IsUnended [] = Unit {0}
IsUnended (b ∷ []) = (b ≡ 10) ⊎ (b ≡ 92)
IsUnended (b ∷ c ∷ bytes) = (b ≡ 10) ⊎ ((b ≡ 92) × (c ≡ 10))

-- a backslash with something of its line after it that is no escape
abbrev pub IsBadEscape : List ℕ → Type 0
IsBadEscape [] = ⊥
IsBadEscape (b ∷ bytes) = (b ≡ 92) × (begins is_in_line bytes ≡ true) × (escape_len bytes ≡ None)

-- ---- numbers

-- the value of decimal digits after a value
abbrev pub decimal_after : ℕ → List ℕ → ℕ
decimal_after start digits = fold (λ v d. v * 10 + (d - 48)) start digits

abbrev pub decimal : List ℕ → ℕ
decimal digits = decimal_after 0 digits

-- from -2^63 to 2^64-1
abbrev pub IsInRange : List ℕ → Type 0
IsInRange [] = ⊥
IsInRange (b ∷ digits) = MatchBool (b == 45) (decimal digits ≤ 2 ^ 63) (decimal (b ∷ digits) < 2 ^ 64)

-- the 64 bits of a number in two's complement: the value of its digits, after a '-' taken from 2^64
abbrev pub number_value : List ℕ → ℕ
number_value [] = 0
number_value (b ∷ digits) = if b == 45 then (2 ^ 64 - decimal digits) % 2 ^ 64 else decimal (b ∷ digits)

-- ---- tokens

-- the kind of the tokens that begin with a byte
unfoldable pub first_kind : ℕ → Option TokenKind
first_kind b =
    if b == 36 then Some Global
    else (if b == 37 then Some Temp
    else (if b == 64 then Some Label
    else (if b == 58 then Some Aggregate
    else (if b == 34 then Some Quoted
    else (if b == 44 then Some Comma
    else (if b == 61 then Some Equals
    else (if b == 123 then Some OpenBrace
    else (if b == 125 then Some CloseBrace
    else (if b == 40 then Some OpenParen
    else (if b == 41 then Some CloseParen
    else (if b == 43 then Some Plus
    else (if b == 46 then Some Dots
    else (if b == 10 then Some Newline
    else (if is_ascii_alphabetic b then Some Word
    else (if is_ascii_digit b || b == 45 then Some Number
    else None)))))))))))))))

-- one byte or more of a name
abbrev pub IsName : List ℕ → Type 0
IsName bytes = (begins is_name_byte bytes ≡ true) × Are is_name_byte bytes

-- what follows the opening quote
abbrev pub IsInside : List ℕ → Type 0
IsInside bytes = (n : ℕ) × Items n bytes (34 ∷ [])

-- gaps, each up to its newline
abbrev pub AreLines : List ℕ → Type 0
AreLines bytes = (gaps : List (List ℕ)) × AllByRecursion IsGap gaps × (bytes ≡ flat_map ended gaps)

-- the bytes of a token after its first
abbrev pub HasTail : TokenKind → ℕ → List ℕ → Type 0
HasTail Global b tail = IsName tail
HasTail Temp b tail = IsName tail
HasTail Label b tail = IsName tail
HasTail Aggregate b tail = IsName tail
HasTail Word b tail = Are is_word_byte tail
HasTail Number b tail = (b ≡ 45 → begins is_ascii_digit tail ≡ true) × Are is_ascii_digit tail
HasTail Quoted b tail = IsInside tail
HasTail Comma b tail = tail ≡ []
HasTail Equals b tail = tail ≡ []
HasTail OpenBrace b tail = tail ≡ []
HasTail CloseBrace b tail = tail ≡ []
HasTail OpenParen b tail = tail ≡ []
HasTail CloseParen b tail = tail ≡ []
HasTail Plus b tail = tail ≡ []
HasTail Dots b tail = tail ≡ 46 ∷ 46 ∷ []
HasTail Newline b tail = AreLines tail

-- the bytes have the shape of a token of that kind
abbrev pub HasShape : TokenKind → List ℕ → Type 0
HasShape kind [] = ⊥
HasShape kind (b ∷ tail) = (first_kind b ≡ Some kind) × HasTail kind b tail
