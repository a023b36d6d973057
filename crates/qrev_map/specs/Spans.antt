-- What is kept of a map, and what it means.
use Rattle.std.specs.Prelude.{◌≡◌, ℕ, ◌^◌, ◌<◌, List, [], ◌∷◌, ◌++◌, length, take, drop, map, Option, option_map, IfSome, IfNone}
use Rattle.qil_streams.specs.Script.{lines_of}
use Rattle.std.specs.Str.{IsUtf8}
use Rattle.std.specs.Str.Parse.{IsNumeral}
use Rattle.qrev_map.specs.Maps.{Origin, Tells, IsMalformed, IsFirstMalformed, IsPlace, IsTold, fields_of}
use Rattle.qrev_map.specs.declared.line.Told.{Told}
use Rattle.qrev_map.specs.declared.map.OriginSpan.{OriginSpan}
use Rattle.qrev_map.specs.declared.map.Map.{Map}
use Rattle.qrev_map.specs.declared.map.MapError.{MapError}
use Rattle.qrev_map.specs.declared.map.MapError.TheVariants.{TooLong, Malformed, OutOfMemory}
use denote.Ref.{Bor}

-- bytes of a text from a place on, as many as there are
abbrev pub path_of : List ℕ → ℕ → ℕ → List ℕ
path_of text start n = take n (drop start text)

-- what was read of a line
abbrev pub told_origin : List ℕ → Told → Origin
told_origin line told = record { path = path_of line told.path_start told.path_length; line = told.line }

abbrev pub told_in : List ℕ → Option Told → Option Origin
told_in line told = option_map (told_origin line) told

-- bytes were cut at their first tabulator
pub record IsCut (bytes before behind : List ℕ) : Type 0 where
  pub whole : bytes ≡ before ++ 9 ∷ behind
  pub fields : fields_of bytes ≡ before ∷ fields_of behind

-- the whole path was read, and the number of a line that the digits say
pub record HasPlace (path digits : List ℕ) (told : Told) : Type 0 where
  pub start : told.path_start ≡ 0
  pub size : told.path_length ≡ length path
  pub is_place : IsPlace path digits (record { path = path; line = told.line })

-- bytes are three fields: a text, digits, and a column
pub record AreThree (bytes source number column : List ℕ) : Type 0 where
  pub fields : fields_of bytes ≡ source ∷ number ∷ column ∷ []
  pub is_text : IsUtf8 source
  pub is_number : IsNumeral 10 number
  pub is_column : IsNumeral 10 column

-- what three fields tell of the source of a source
pub record HasSource (bytes : List ℕ) (found : Option Told) : Type 0 where
  pub source : List ℕ
  pub number : List ℕ
  pub column : List ℕ
  pub behind : List ℕ
  pub begins : bytes ≡ source ++ behind
  pub are_three : AreThree bytes source number column
  pub told : IfSome found (HasPlace source number)
  pub untold : IfNone found (IsTold source number → ⊥)

-- what was kept of a line
abbrev pub origin_in : List ℕ → Option OriginSpan → Option Origin
origin_in text span = option_map (λ s. record { path = path_of text s.start s.length; line = s.line }) span

abbrev pub origins_in : List ℕ → List (Option OriginSpan) → List (Option Origin)
origins_in text spans = map (origin_in text) spans

-- what a map tells, for each line of the text
abbrev pub origins_of : {A : Type 0} → Map A → List (Option Origin)
origins_of m = origins_in m.text.items m.spans.items

-- an origin as it is shown
abbrev pub origin_shown : Option (Bor (List ℕ) × ℕ) → Option Origin
origin_shown shown = option_map (λ s. record { path = s.0.now; line = s.1 }) shown

-- what a line tells was kept after the others
pub record AddsLine (text : List ℕ) (start n : ℕ) (old new : List (Option OriginSpan)) : Type 0 where
  pub span : Option OriginSpan
  pub added : new ≡ old ++ span ∷ []
  pub tells : Tells (path_of text start n) (origin_in text span)

-- why a line isn't taken after so many others
abbrev pub LineRefused : List ℕ → ℕ → MapError → Type 0
LineRefused line before TooLong = ⊥
LineRefused line before (Malformed n) = (n ≡ before) × IsMalformed line
LineRefused line before OutOfMemory = Unit {0}

-- why a map isn't taken
abbrev pub MapRefused : List ℕ → MapError → Type 0
MapRefused text TooLong = 2 ^ 24 < length text
MapRefused text (Malformed n) = IsFirstMalformed (lines_of text) n
MapRefused text OutOfMemory = Unit {0}
