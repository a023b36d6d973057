-- Names, each once, and their numbers.
use Rattle.std.specs.Prelude.{ℕ, suc, if◌then◌else◌, List, [], ◌∷◌, ◌++◌, map, fold, Option, Some, None, option_map}
use Rattle.std.specs.List.{list_any}
use Rattle.std.specs.Str.{bytes_eq}
use denote.Ref.{Bor}

-- the first place of a name among names
unfoldable pub place_of : List (List ℕ) → List ℕ → Option ℕ
place_of [] x = None
place_of (n ∷ ns) x = if bytes_eq n x then Some 0 else option_map (λ i. suc i) (place_of ns x)

-- names with one more after them, unless it is among them
abbrev pub noted : List (List ℕ) → List ℕ → List (List ℕ)
noted ns x = if list_any (bytes_eq x) ns then ns else ns ++ x ∷ []

-- names with further ones after them, those that are new
abbrev pub recorded : List (List ℕ) → List (List ℕ) → List (List ℕ)
recorded ns xs = fold noted ns xs

-- the names that keys are
abbrev pub names_of : List (Bor (List ℕ)) → List (List ℕ)
names_of keys = map (λ key. key.now) keys
