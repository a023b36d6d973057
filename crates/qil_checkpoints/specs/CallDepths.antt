-- Where going back along a walk comes to a depth of calls, and one step forward.
use Rattle.std.specs.Prelude.{◌≡◌, ℕ, ◌<◌, ◌≤◌, Bool, true, false, not, nat_lt, List, length, Option, Some, None}
use Rattle.qil_tree.specs.declared.tree.Program.{Program}
use Rattle.qil_semantics.specs.State.{State}
use Rattle.qil_semantics.specs.Timeline.{Timeline, forward, at_end, gone}
use Rattle.qil_semantics.specs.Runs.{if_holds}
use Rattle.qil_semantics.specs.declared.reason.Reason.{Reason}
use Rattle.qil_semantics.specs.declared.reason.Reason.TheVariants.{Limit}
use Rattle.qil_stops.specs.Depths.{depth}
use Rattle.qil_stops.specs.declared.depth_end.DepthEnd.{DepthEnd}
use Rattle.qil_stops.specs.declared.depth_end.DepthEnd.TheVariants.{Depth, Stopped}
use Rattle.qil_checkpoints.specs.declared.poked.Poked.{Poked}
use Rattle.qil_checkpoints.specs.Walk.{walk}

-- A state with no more than n calls open is where a run back over calls has its limit.
abbrev pub shallow_in : ℕ → State → Option Reason
shallow_in n s = if_holds (not (nat_lt n (length s.frames))) Limit

abbrev pub shallow_at : {A : Type 0} → Program A → ℕ → State → List Poked → ℕ → Option Reason
shallow_at p n s pokes j = shallow_in n (walk p s pokes j)

-- of the moves back, up to the limit, the least number after which no more than n calls are open; or after none are so few
abbrev pub IsFirstShallow : Timeline → ℕ → ℕ → Option ℕ → Type 0
IsFirstShallow t n limit None = (j : ℕ) → 0 < j → j ≤ limit → j ≤ length t.past → n < depth (gone j t)
IsFirstShallow t n limit (Some k) = (0 < k) × (k ≤ limit) × (depth (gone k t) ≤ n) × ((j : ℕ) → 0 < j → j < k → n < depth (gone j t))

-- a run whose limit is where no more calls are open than were asked for
abbrev pub depth_or : Reason → DepthEnd
depth_or Limit = Depth
depth_or reason = Stopped reason

-- a step was made, or none, as the run is over
abbrev pub Advances : {A : Type 0} → Program A → Bool → Timeline → Timeline → Type 0
Advances p true t u = (at_end t ≡ false) × (u ≡ forward p t)
Advances p false t u = (at_end t ≡ true) × (u ≡ t)
