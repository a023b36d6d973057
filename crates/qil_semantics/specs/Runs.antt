-- Where `continue` and `reverse` come to stand: after the least number of moves that has a reason to stop.
use Rattle.std.specs.Prelude.{◌≡◌, ℕ, zero, suc, ◌<◌, ◌==◌, Bool, cond, List, length, Option, Some, None, is_some}
use Rattle.std.specs.Option.{option_or}
use Rattle.qil_tree.specs.declared.tree.Program.{Program}
use Rattle.qil_semantics.specs.Timeline.{Timeline, oldest, at_end, moved, gone}
use Rattle.qil_semantics.specs.Moves.{least}
use Rattle.qil_semantics.specs.Stops.{Numbered, stopped}
use Rattle.qil_semantics.specs.declared.reason.Reason.{Reason}
use Rattle.qil_semantics.specs.declared.reason.Reason.TheVariants.{End, Start, Oldest, Limit, Memory}

-- a reason that holds, or none
abbrev pub if_holds : Bool → Reason → Option Reason
if_holds b reason = cond b (Some reason) None

-- after so many moves the limit is reached; each other reason comes first
abbrev pub within : ℕ → ℕ → Option Reason → Option Reason
within limit k reason = option_or reason (if_holds (k == limit) Limit)

-- why a run forward stops at the state k moves on, the limit aside: at the end; after a move also where a stop holds
unfoldable pub stop_on : {A : Type 0} → Program A → List Numbered → Timeline → ℕ → Option Reason
stop_on p stops t zero = if_holds (at_end t) End
stop_on p stops t (suc k) = option_or (if_holds (at_end (moved p (suc k) t)) End) (stopped stops (moved p k t).now (moved p (suc k) t).now)

-- what is reached k moves back, if it is the oldest state that is kept: the start of the run, or not
abbrev pub bottom : Timeline → ℕ → Option Reason
bottom t k = if_holds (length t.past == k) (cond (oldest t == 0) Start Oldest)

-- why a run back stops at the state k moves back, the limit aside: at the oldest state; before that, after a move, where a
-- stop holds
unfoldable pub stop_back : List Numbered → Timeline → ℕ → Option Reason
stop_back stops t zero = bottom t 0
stop_back stops t (suc k) = option_or (stopped stops (gone k t).now (gone (suc k) t).now) (bottom t (suc k))

-- the least number of moves with a reason to stop: the limit is one
abbrev pub target : (ℕ → Option Reason) → ℕ → ℕ
target stop limit = least (λ k. is_some (within limit k (stop k))) limit

-- running out of memory is no stop
abbrev pub stopping : Reason → Option Reason
stopping Memory = None
stopping reason = Some reason

-- k is the least number of moves with a reason to stop, and this is the reason; or memory ran out after k moves, none of
-- which led to a stop
pub record IsLeast (stop : ℕ → Option Reason) (limit k : ℕ) (reason : Reason) : Type 0 where
  pub passed : (j : ℕ) → j < k → within limit j (stop j) ≡ None
  pub reached : within limit k (stop k) ≡ stopping reason

-- a run forward from t made k moves to u, and stopped for this reason
pub record RunsOn {A : Type 0} (p : Program A) (stops : List Numbered) (limit : ℕ) (t : Timeline) (reason : Reason) (k : ℕ) (u : Timeline) : Type 0 where
  pub moves : u ≡ moved p k t
  pub least : IsLeast (stop_on p stops t) limit k reason

-- a run back from t made k moves to u, and stopped for this reason, which is never out of memory
pub record RunsBack (stops : List Numbered) (limit : ℕ) (t : Timeline) (reason : Reason) (k : ℕ) (u : Timeline) : Type 0 where
  pub moves : u ≡ gone k t
  pub no_memory : stopping reason ≡ Some reason
  pub least : IsLeast (stop_back stops t) limit k reason
