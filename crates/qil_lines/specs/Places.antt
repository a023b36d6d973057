-- A place as the numbers of its block and its index.
use Rattle.std.specs.Prelude.{ℕ, Option, Some, None}
use Rattle.qil_lines.specs.declared.lines.Place.{Place}

abbrev pub pair_of : Option Place → Option (ℕ × ℕ)
pair_of None = None
pair_of (Some place) = Some (place.block, place.index)
