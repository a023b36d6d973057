-- Maps from temporaries to values.
use Rattle.std.specs.Prelude.{ℕ, if◌then◌else◌, List, [], ◌∷◌, zip, Option, None}
use Rattle.std.specs.Option.{option_or}
use Rattle.std.specs.Str.{bytes_eq}
use Rattle.qil_memory.specs.qil_layout.Layout.{if_named}
use Rattle.qil_semantics.specs.State.{Name, Temps}

-- the map with a value for one temporary, or with that one unset
unfoldable pub with_temp : Temps → Name → Option ℕ → Temps
with_temp temps x v y = if bytes_eq x y then v else temps y

-- the map of a list of values by name: of two for one name the later
unfoldable pub by_name : List (Name × ℕ) → Temps
by_name [] x = None
by_name (one ∷ others) x = option_or (by_name others x) (if_named one.0 x one.1)

-- these values, next to their names
abbrev pub named : List Name → List ℕ → Temps
named names vs = by_name (zip names vs)

-- a map laid over another
unfoldable pub overlay : Temps → Temps → Temps
overlay new old x = option_or (new x) (old x)
