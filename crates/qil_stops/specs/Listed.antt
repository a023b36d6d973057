-- The stops that are kept, by number.
use Rattle.std.specs.Prelude.{◌≡◌, ◌⊎◌, ℕ, ◌+◌, ◌<◌, ◌≤◌, ◌^◌, ◌==◌, Bool, not, List, [], ◌∷◌, ◌++◌, filter, length}
use Rattle.std.specs.List.{list_any}
use Rattle.qil_memory.specs.Calls.{IsWidth}
use Rattle.qil_stops.specs.declared.stop.Watched.{Watched}
use Rattle.qil_stops.specs.declared.stop.Watched.TheVariants.{Bytes, Temp}
use Rattle.qil_stops.specs.declared.stop.StopKind.{StopKind}
use Rattle.qil_stops.specs.declared.stop.StopKind.TheVariants.{Break, Watch}
use Rattle.qil_stops.specs.declared.stop.NumberedStop.{NumberedStop}

-- how many numbers were given so far, and the stops by number
pub record Listed : Type 0 where
  pub given : ℕ
  pub kept : List NumberedStop

-- each number is above the one before, and none is above the last one given
abbrev pub IsRising : ℕ → List NumberedStop → ℕ → Type 0
IsRising low [] given = low ≤ given
IsRising low (stop ∷ stops) given = (low < stop.number) × IsRising stop.number stops given

-- bytes that a watch can read at once
abbrev pub HasWidth : Watched → Type 0
HasWidth (Bytes a n) = IsWidth n
HasWidth (Temp func slot) = Unit {0}

abbrev pub IsReadable : StopKind → Type 0
IsReadable (Break place) = Unit {0}
IsReadable (Watch watched) = HasWidth watched

abbrev pub AreReadable : List NumberedStop → Type 0
AreReadable [] = Unit {0}
AreReadable (stop ∷ stops) = IsReadable stop.kind × AreReadable stops

-- there is no room for one more, or no number is left
abbrev pub IsFull : Listed → Type 0
IsFull stops = (length stops.kept ≡ 64) ⊎ (stops.given ≡ 2 ^ 62)

-- one more stop, with the next number
abbrev pub added : StopKind → Listed → Listed
added kind stops = record { given = stops.given + 1; kept = stops.kept ++ record { number = stops.given + 1; kind = kind } ∷ [] }

abbrev pub has_number : ℕ → NumberedStop → Bool
has_number n stop = stop.number == n

abbrev pub is_listed : ℕ → List NumberedStop → Bool
is_listed n stops = list_any (has_number n) stops

-- the stops but the one of that number
abbrev pub without : ℕ → List NumberedStop → List NumberedStop
without n stops = filter (λ stop. not (has_number n stop)) stops
