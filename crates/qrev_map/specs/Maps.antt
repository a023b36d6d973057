-- What the lines of a map tell.
use Rattle.std.specs.Prelude.{◌≡◌, ◌==◌, ℕ, zero, suc, ◌^◌, ◌<◌, ◌≤◌, List, [], ◌∷◌, ◌++◌, length, cond, Option, Some, None, slice_get, option_and_then}
use Rattle.std.specs.Str.{IsUtf8}
use Rattle.std.specs.Str.Parse.{IsNumeral, digits_value}

-- where a line of the text came from: the path of a source, and the number of its line
pub record Origin : Type 0 where
  pub path : List ℕ
  pub line : ℕ

-- the fields of a line are what its tabulators separate
abbrev pub add_to_first : ℕ → List (List ℕ) → List (List ℕ)
add_to_first b [] = (b ∷ []) ∷ []
add_to_first b (field ∷ fields) = (b ∷ field) ∷ fields

abbrev pub fields_of : List ℕ → List (List ℕ)
fields_of [] = [] ∷ []
fields_of (b ∷ bytes) = cond (b == 9) ([] ∷ fields_of bytes) (add_to_first b (fields_of bytes))

-- a path is a text that says something
abbrev pub IsPath : List ℕ → Type 0
IsPath path = (0 < length path) × IsUtf8 path

-- digits say the number of a line: from 1 to 2^32 - 1, in decimal
abbrev pub IsLineNumber : List ℕ → Type 0
IsLineNumber digits = IsNumeral 10 digits × (1 ≤ digits_value 10 digits) × (digits_value 10 digits < 2 ^ 32)

-- a path and the digits behind it tell a line of a source
pub record IsPlace (path digits : List ℕ) (origin : Origin) : Type 0 where
  pub same : origin.path ≡ path
  pub is_path : IsPath path
  pub is_number : IsLineNumber digits
  pub value : digits_value 10 digits ≡ origin.line

-- digits and a column behind a path tell of the source of a source, if there is a path and the number of a line
abbrev pub IsTold : List ℕ → List ℕ → Type 0
IsTold path digits = (0 < length path) × IsLineNumber digits

-- the fields of a line that tells something: a path and the number of a line; and behind them, if that source was made from another,
-- the path and the line of that, which is meant, and a column
pub record IsWithSource (path digits source number column : List ℕ) (origin : Origin) : Type 0 where
  pub outer : Origin
  pub is_outer : IsPlace path digits outer
  pub is_text : IsUtf8 source
  pub is_number : IsNumeral 10 number
  pub is_column : IsNumeral 10 column
  pub told : IsTold source number → IsPlace source number origin
  pub untold : (IsTold source number → ⊥) → origin ≡ outer

abbrev pub IsOrigin : List (List ℕ) → Origin → Type 0
IsOrigin [] origin = ⊥
IsOrigin (a ∷ []) origin = ⊥
IsOrigin (path ∷ digits ∷ []) origin = IsPlace path digits origin
IsOrigin (a ∷ b ∷ c ∷ []) origin = ⊥
IsOrigin (a ∷ b ∷ c ∷ d ∷ []) origin = ⊥
IsOrigin (path ∷ digits ∷ source ∷ number ∷ column ∷ []) origin = IsWithSource path digits source number column origin
IsOrigin (a ∷ b ∷ c ∷ d ∷ e ∷ f ∷ more) origin = ⊥

-- a line of a map tells where a line of the text came from; an empty one, that it came from no source
abbrev pub Tells : List ℕ → Option Origin → Type 0
Tells line None = line ≡ []
Tells line (Some origin) = IsOrigin (fields_of line) origin

-- a line is of another form: it is not empty, and its fields tell nothing
abbrev pub IsMalformed : List ℕ → Type 0
IsMalformed line = (origin : Option Origin) → Tells line origin → ⊥

-- the lines of a map tell these, one each
abbrev pub Tell : List (List ℕ) → List (Option Origin) → Type 0
Tell [] [] = Unit {0}
Tell [] (origin ∷ origins) = ⊥
Tell (line ∷ lines) [] = ⊥
Tell (line ∷ lines) (origin ∷ origins) = Tells line origin × Tell lines origins

-- where a line of the text came from, counted from 1: lines after the end of the map came from no source
abbrev pub source_at : List (Option Origin) → ℕ → Option Origin
source_at origins zero = None
source_at origins (suc k) = option_and_then (λ origin. origin) (slice_get origins k)

-- these lines tell something, and the one after them doesn't
pub record IsFirstMalformed (lines : List (List ℕ)) (before : ℕ) : Type 0 where
  pub done : List (List ℕ)
  pub origins : List (Option Origin)
  pub line : List ℕ
  pub more : List (List ℕ)
  pub whole : lines ≡ done ++ line ∷ more
  pub told : Tell done origins
  pub counted : length done ≡ before
  pub malformed : IsMalformed line
