-- Where going back along a walk stops.
use Rattle.std.specs.Prelude.{◌≡◌, ℕ, suc, ◌+◌, ◌<◌, ◌≤◌, ◌==◌, cond, List, Option, Some, None}
use Rattle.qil_tree.specs.declared.tree.Program.{Program}
use Rattle.qil_semantics.specs.State.{State}
use Rattle.qil_semantics.specs.Stops.{Numbered, first_break, stopped}
use Rattle.qil_semantics.specs.declared.reason.Reason.{Reason}
use Rattle.qil_semantics.specs.declared.reason.Reason.TheVariants.{Start, Limit}
use Rattle.qil_stops.specs.declared.stop.NumberedStop.{NumberedStop}
use Rattle.qil_stops.specs.Named.{named_stops}
use Rattle.qil_stops.specs.Readings.{AllTell}
use Rattle.qil_checkpoints.specs.declared.hit.Hit.{Hit}
use Rattle.qil_checkpoints.specs.declared.poked.Poked.{Poked}
use Rattle.qil_checkpoints.specs.Walk.{ArePoked, poke_at, walk}

-- the stop that holds in going back to a position of a walk from the next one
abbrev pub stop_at : {A : Type 0} → Program A → List Numbered → State → List Poked → ℕ → Option Reason
stop_at p stops s pokes j = stopped stops (walk p s pokes (suc j)) (walk p s pokes j)

-- of the positions from one on and before another the last at which a stop holds; or at none does one
abbrev pub IsLastHit : (ℕ → Option Reason) → ℕ → ℕ → Option Hit → Type 0
IsLastHit stop from to None = (j : ℕ) → from ≤ j → j < to → stop j ≡ None
IsLastHit stop from to (Some hit) =
    (from ≤ hit.position) × (hit.position < to) × (stop hit.position ≡ Some hit.reason) × ((j : ℕ) → hit.position < j → j < to → stop j ≡ None)

-- the hit of a position, if there is one, and else the one before
abbrev pub later_hit : Option Hit → ℕ → Option Reason → Option Hit
later_hit last j None = last
later_hit last j (Some reason) = Some (record { position = j; reason = reason })

-- where no stop holds the lowest position is gone to: the start, or where the limit is reached
abbrev pub hit_or_lowest : ℕ → Option Hit → Hit
hit_or_lowest lowest (Some hit) = hit
hit_or_lowest lowest None = record { position = lowest; reason = cond (lowest == 0) Start Limit }

-- ---- so many moves, of which only the last may lead to a stop

-- from a state on, up to the last move each stop reads the same, and no breakpoint holds but at that state
pub record IsQuiet {A : Type 0} (p : Program A) (states : ℕ → State) (stops : List NumberedStop) (values : List (Option ℕ)) (from n : ℕ) : Type 0 where
  pub told : (j : ℕ) → from ≤ j → j < from + n → AllTell p (states j) stops values
  pub unbroken : (j : ℕ) → from < j → j < from + n → first_break (states j) (named_stops p stops) ≡ None

-- the position up to which there are steps alone: that of the next poke, or the end
pub record IsNextStand (pokes : List Poked) (at to next : ℕ) : Type 0 where
  pub later : at < next
  pub within : next ≤ to
  pub none : (j : ℕ) → at ≤ j → j < next → poke_at pokes j ≡ None
  pub poked : ArePoked next pokes to
