-- Where runs over calls end: after the least number of moves after which no more calls are open than were asked for, or at
-- which a run stops anyway.
use Rattle.std.specs.Prelude.{◌≡◌, ℕ, ◌<◌, ◌≤◌, ◌⊎◌, List, length, Option, Some, None}
use Rattle.qil_tree.specs.declared.tree.Program.{Program}
use Rattle.qil_semantics.specs.Timeline.{Timeline, moved, gone}
use Rattle.qil_semantics.specs.Stops.{Numbered}
use Rattle.qil_semantics.specs.Runs.{stop_on, stop_back}
use Rattle.qil_semantics.specs.declared.reason.Reason.{Reason}
use Rattle.qil_semantics.specs.declared.reason.Reason.TheVariants.{Limit, Memory}
use Rattle.qil_stops.specs.declared.depth_end.DepthEnd.{DepthEnd}
use Rattle.qil_stops.specs.declared.depth_end.DepthEnd.TheVariants.{Depth, Stopped}

-- how many calls are open
abbrev pub depth : Timeline → ℕ
depth t = length t.now.frames

-- A run passes the first k states of the way that `at` leads: none of them stops it, and after each move more than n calls
-- are open.
pub record Passes (stop : ℕ → Option Reason) (at : ℕ → Timeline) (n k : ℕ) : Type 0 where
  pub unstopped : (j : ℕ) → j < k → stop j ≡ None
  pub deep : (j : ℕ) → j < k → 0 < j → n < depth (at j)

-- what ends a run k moves on where no state does: the limit, or that there is no memory for the next move
abbrev pub EndsAnyway : ℕ → ℕ → Reason → Type 0
EndsAnyway limit k Limit = k ≡ limit
EndsAnyway limit k Memory = k < limit
EndsAnyway limit k reason = ⊥

-- Why it ends k moves on: as no more than n calls are open after a move, where nothing stops it; for a reason that stops it,
-- whatever the depth; or anyway, where neither is so.
abbrev pub Ends : (ℕ → Option Reason) → (ℕ → Timeline) → ℕ → ℕ → ℕ → DepthEnd → Type 0
Ends stop at n limit k Depth = (stop k ≡ None) × (0 < k) × (depth (at k) ≤ n)
Ends stop at n limit k (Stopped reason) = (stop k ≡ Some reason) ⊎ ((stop k ≡ None) × (0 < k → n < depth (at k)) × EndsAnyway limit k reason)

-- a run forward from t made k moves to u, no more than the limit, and ended for this
pub record RunsToDepth {A : Type 0} (p : Program A) (stops : List Numbered) (n limit : ℕ) (t : Timeline) (end : DepthEnd) (k : ℕ) (u : Timeline) : Type 0 where
  pub moves : u ≡ moved p k t
  pub few : k ≤ limit
  pub passed : Passes (stop_on p stops t) (λ j. moved p j t) n k
  pub ends : Ends (stop_on p stops t) (λ j. moved p j t) n limit k end

-- a run back from t made k moves to u, no more than the limit, and ended for this
pub record RunsBackToDepth (stops : List Numbered) (n limit : ℕ) (t : Timeline) (end : DepthEnd) (k : ℕ) (u : Timeline) : Type 0 where
  pub moves : u ≡ gone k t
  pub few : k ≤ limit
  pub passed : Passes (stop_back stops t) (λ j. gone j t) n k
  pub ends : Ends (stop_back stops t) (λ j. gone j t) n limit k end

-- ---- what code says of where it is

-- the oldest state that is kept comes before the depth
abbrev pub bottom_or_depth : Option Reason → DepthEnd
bottom_or_depth None = Depth
bottom_or_depth (Some reason) = Stopped reason
