-- The number of a name, and the name of a number.
use Rattle.std.specs.Prelude.{ℕ, List, [], unwrap_or, slice_get}
use Rattle.qil_symbols.specs.Numbers.{place_of}
use Rattle.qil_semantics.specs.State.{Name}

abbrev pub number_in : List Name → Name → ℕ
number_in ns x = unwrap_or (place_of ns x) 0

abbrev pub name_at : List Name → ℕ → Name
name_at ns i = unwrap_or (slice_get ns i) []
