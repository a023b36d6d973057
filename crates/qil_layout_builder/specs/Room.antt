-- How much room is left after something of a size, or that there isn't enough.
use Rattle.std.specs.Prelude.{◌≡◌, ℕ, ◌+◌, ◌<◌, Option, MatchOption}

abbrev pub IsLeft : ℕ → ℕ → Option ℕ → Type 0
IsLeft room size left = MatchOption left (room < size) (λ r. r + size ≡ room)
