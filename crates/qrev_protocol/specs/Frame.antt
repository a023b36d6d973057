-- A message as it comes and goes: the lines of a header, a blank line, and the body, whose length the header says.
use Rattle.std.specs.Prelude.{◌≡◌, ◌≢◌, ℕ, ◌-◌, ◌≤◌, ◌^◌, ◌⊎◌, List, [], ◌∷◌, ◌++◌, length, take, drop, map, Bool, codes, decimal}
use Rattle.std.specs.List.{AllByRecursion, filter, flat_map, prefix_len, suffix_len}
use Rattle.std.specs.Char.{to_ascii_lowercase, is_ascii_whitespace}
use Rattle.std.specs.Str.{bytes_eq}
use Rattle.std.specs.Str.Parse.{IsNumeral, digits_value, without_leading_plus}

-- a line on the wire: byte 10 ends it
abbrev pub ended : List ℕ → List ℕ
ended line = line ++ 10 ∷ []

-- a line has no byte 10
abbrev pub IsLine : List ℕ → Type 0
IsLine line = AllByRecursion (λ b. b ≢ 10) line

-- nothing stands in a blank line but the byte 13 of its end
abbrev pub IsBlank : List ℕ → Type 0
IsBlank line = (line ≡ []) ⊎ (line ≡ 13 ∷ [])

abbrev pub IsHeaderLine : List ℕ → Type 0
IsHeaderLine line = IsLine line × (IsBlank line → ⊥)

-- whether a line is the header of that name, in capital or small letters
abbrev pub is_length : List ℕ → Bool
is_length line = bytes_eq (map to_ascii_lowercase (take 15 line)) (codes "content-length:")

abbrev pub trimmed_front : List ℕ → List ℕ
trimmed_front text = drop (prefix_len is_ascii_whitespace text) text

-- without the white space at both ends
abbrev pub trimmed : List ℕ → List ℕ
trimmed text = take (length (trimmed_front text) - suffix_len is_ascii_whitespace (trimmed_front text)) (trimmed_front text)

-- the digits after the name
abbrev pub digits_in : List ℕ → List ℕ
digits_in line = without_leading_plus (trimmed (drop 15 line))

-- the number that a line says after the name
abbrev pub Says : List ℕ → ℕ → Type 0
Says line n = IsNumeral 10 (digits_in line) × (digits_value 10 (digits_in line) ≡ n)

-- one of the lines, and no more, says how long the body is
abbrev pub SayLength : List (List ℕ) → ℕ → Type 0
SayLength lines n = (line : List ℕ) × (filter is_length lines ≡ line ∷ []) × Says line n

-- the lines of a header, and the blank line after them
abbrev pub header : List (List ℕ) → List ℕ → List ℕ
header lines blank = flat_map ended lines ++ ended blank

-- a header of at most 4096 bytes, which says that the body has n bytes
pub record IsHeader (text : List ℕ) (n : ℕ) : Type 0 where
  pub lines : List (List ℕ)
  pub blank : List ℕ
  pub are_lines : AllByRecursion IsHeaderLine lines
  pub is_blank : IsBlank blank
  pub says : SayLength lines n
  pub whole : text ≡ header lines blank
  pub short : length text ≤ 4096

-- a message is a header and a body, which has at most 2^20 bytes
pub record IsMessage (message body : List ℕ) : Type 0 where
  pub text : List ℕ
  pub says : IsHeader text (length body)
  pub within : length body ≤ 2 ^ 20
  pub whole : message ≡ text ++ body

-- no message is at the start
abbrev pub HasNone : List ℕ → Type 0
HasNone input = (message body rest : List ℕ) → IsMessage message body → input ≡ message ++ rest → ⊥

-- no message begins so, whatever comes next
abbrev pub IsLost : List ℕ → Type 0
IsLost prefix = (more : List ℕ) → HasNone (prefix ++ more)

-- a body as it is sent
abbrev pub framed : List ℕ → List ℕ
framed body = codes "Content-Length: " ++ decimal (length body) ++ codes "\r\n\r\n" ++ body
