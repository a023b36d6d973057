-- The lines of one source that lines of a text came from.
use Rattle.std.specs.Prelude.{◌≡◌, ℕ, suc, ◌+◌, ◌<◌, ◌≤◌, List, [], ◌∷◌, length, drop, slice_index_or, Option, Some, None, cond}
use Rattle.std.specs.Str.{bytes_eq}
use Rattle.std.specs.List.{AllWithin, Contains}
use Rattle.std.specs.List.Sorted.{IsNonDecreasingBy}
use Rattle.qrev_map.specs.Maps.{Origin}
use Rattle.qrev_map.specs.declared.file.Mapping.{Mapping}

-- the mappings of a source in the lines of a text from this one on, in the order of the text
abbrev pub mappings_from : ℕ → List ℕ → List (Option Origin) → List Mapping
mappings_from k path [] = []
mappings_from k path (None ∷ origins) = mappings_from (suc k) path origins
mappings_from k path (Some origin ∷ origins) = cond (bytes_eq origin.path path) (record { line = origin.line; text_line = k } ∷ mappings_from (suc k) path origins) (mappings_from (suc k) path origins)

abbrev pub mappings_of : List ℕ → List (Option Origin) → List Mapping
mappings_of path origins = mappings_from 1 path origins

-- the lines of the source don't fall, and where two of them that follow each other are one, those of the text don't
pub record Rise (mappings : List Mapping) : Type 0 where
  pub lines : IsNonDecreasingBy (λ mapping. mapping.line) mappings
  pub ties : (k : ℕ) (d : Mapping) → k + 1 < length mappings → (slice_index_or mappings k d).line ≡ (slice_index_or mappings (k + 1) d).line
      → (slice_index_or mappings k d).text_line ≤ (slice_index_or mappings (k + 1) d).text_line

-- every mapping is before a line of the source
abbrev pub AreBefore : ℕ → List Mapping → Type 0
AreBefore line mappings = AllWithin (λ mapping. mapping.line < line) mappings 0 (length mappings)

-- the end of the mappings, from the first on that isn't before a line
pub record IsFrom (line : ℕ) (mappings from : List Mapping) : Type 0 where
  pub first : ℕ
  pub whole : from ≡ drop first mappings
  pub within : first ≤ length mappings
  pub are_before : AllWithin (λ mapping. mapping.line < line) mappings 0 first
  pub are_not : AllWithin (λ mapping. line ≤ mapping.line) mappings first (length mappings)

-- a mapping comes no later than another: by the line of the source, and then by that of the text
abbrev pub IsNoLater : Mapping → Mapping → Type 0
IsNoLater mapping other = (mapping.line ≤ other.line) × (mapping.line ≡ other.line → mapping.text_line ≤ other.text_line)

-- a mapping is the first of those that aren't before a line
pub record IsFirstFrom (line : ℕ) (mappings : List Mapping) (mapping : Mapping) : Type 0 where
  pub there : Contains mappings mapping
  pub not_before : line ≤ mapping.line
  pub first : AllWithin (λ other. line ≤ other.line → IsNoLater mapping other) mappings 0 (length mappings)
