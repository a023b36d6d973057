-- The timeline of what is kept: of a machine with the undo records of its moves, all or the newest.
use Rattle.std.specs.Prelude.{◌≡◌, ℕ, ◌+◌, ◌-◌, ◌≤◌, ◌^◌, List, [], ◌∷◌, ◌++◌, length, reverse, Some, None}
use Rattle.circular_buffer.specs.Buffer.{Buffer, buffer, keep_last}
use Rattle.qil_semantics.specs.State.{State}
use Rattle.qil_semantics.specs.Timeline.{Timeline}
use Rattle.qil_state.specs.State.{Whole, state_of}
use Rattle.qil_machine.specs.Moves.{Move, undone, Fits}

-- the states that undoing one move after the other gives, the latest first
abbrev pub before : {A : Type 0} → List Move → Whole A → List State
before [] m = []
before (d ∷ ds) m = state_of (undone d m) ∷ before ds (undone d m)

-- each may be put back when its turn comes
abbrev pub AllFit : {A : Type 0} → List Move → Whole A → Type 0
AllFit [] m = Unit {0}
AllFit (d ∷ ds) m = Fits d m × AllFit ds (undone d m)

-- ---- undo records

-- a machine, and what its moves kept, the latest last
pub record Moved (A : Type 0) : Type 0 where
  pub machine : Whole A
  pub records : List Move

abbrev pub moved_timeline : {A : Type 0} → Moved A → Timeline
moved_timeline k = record { now = state_of k.machine; past = before (reverse k.records) k.machine; forgotten = 0; keeps = None }

-- ---- the newest undo records

-- one more stands last, where all places were taken the oldest went, and it was counted
pub record HasAdded (before : Buffer Move) (forgotten : ℕ) (move : Move) (after : Buffer Move) (more : ℕ) : Type 0 where
  pub kept : after ≡ buffer (keep_last before.capacity (before.items ++ move ∷ [])) before.capacity
  pub counted : more ≡ forgotten + (length before.items + 1 - before.capacity)

-- a machine, and what its newest moves kept, the latest last; how many older moves were forgotten; and how many are kept
-- at most
pub record Recent (A : Type 0) : Type 0 where
  pub machine : Whole A
  pub records : List Move
  pub forgotten : ℕ
  pub bound : ℕ

abbrev pub recent : {A : Type 0} → Whole A → List Move → ℕ → ℕ → Recent A
recent m ds forgotten bound = record { machine = m; records = ds; forgotten = forgotten; bound = bound }

abbrev pub recent_timeline : {A : Type 0} → Recent A → Timeline
recent_timeline k = record { now = state_of k.machine; past = before (reverse k.records) k.machine; forgotten = k.forgotten; keeps = Some k.bound }

pub record IsRecent {A : Type 0} (k : Recent A) : Type 0 where
  pub fit : AllFit (reverse k.records) k.machine
  pub few : length k.records ≤ k.bound
  pub position : k.forgotten + length k.records ≤ 2 ^ 62
