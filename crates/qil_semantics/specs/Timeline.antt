-- The timeline of a session: the whole states that are kept, of which the last is now, and how many older ones were
-- forgotten. A timeline keeps everything, or as many moves as it is reported.
use Rattle.std.specs.Prelude.{ℕ, zero, suc, ◌+◌, ◌-◌, Bool, nat_lt, if◌then◌else◌, List, [], ◌∷◌, reverse, length, take, drop, Option, Some, None, slice_get, slice_index_or, Result, Ok, Err}
use Rattle.qil_tree.specs.declared.tree.Program.{Program}
use Rattle.qil_semantics.specs.State.{State, is_final}
use Rattle.qil_semantics.specs.Step.{step_of}
use Rattle.qil_semantics.specs.Poke.{PokeFault}

-- The state now, and the kept states before it, the latest first; how many states before these were forgotten; and how
-- many moves are kept at most, if there is a bound.
pub record Timeline : Type 0 where
  pub now : State
  pub past : List State
  pub forgotten : ℕ
  pub keeps : Option ℕ

-- no move was made
abbrev pub begun : Option ℕ → State → Timeline
begun keeps s = record { now = s; past = []; forgotten = 0; keeps = keeps }

-- the number of moves since the start
abbrev pub position : Timeline → ℕ
position t = t.forgotten + length t.past

-- the position of the oldest state that is kept
abbrev pub oldest : Timeline → ℕ
oldest t = t.forgotten

-- the kept states in their order, and the one at a position
abbrev pub states : Timeline → List State
states t = reverse (t.now ∷ t.past)

abbrev pub state_at : Timeline → ℕ → Option State
state_at t j = if nat_lt j (oldest t) then None else slice_get (states t) (j - oldest t)

abbrev pub at_end : Timeline → Bool
at_end t = is_final t.now.status

-- ---- one move

-- of the states before now the newest, and how many were forgotten in all
abbrev pub newest : Option ℕ → List State → List State
newest None past = past
newest (Some n) past = take n past

abbrev pub forgotten_of : Option ℕ → ℕ → List State → ℕ
forgotten_of None forgotten past = forgotten
forgotten_of (Some n) forgotten past = forgotten + (length past - n)

-- a move to a state: it is added to those that are kept, the oldest of which is forgotten where they would be too many
abbrev pub to : State → Timeline → Timeline
to s t = record t { now = s; past = newest t.keeps (t.now ∷ t.past); forgotten = forgotten_of t.keeps t.forgotten (t.now ∷ t.past) }

-- one move forward: the step of the state now
abbrev pub forward : {A : Type 0} → Program A → Timeline → Timeline
forward p t = to (step_of p t.now) t

-- a poke is a move, if it isn't refused
abbrev pub poked : Timeline → Result State PokeFault → Result Timeline PokeFault
poked t (Ok s) = Ok (to s t)
poked t (Err why) = Err why

abbrev pub back_to : Timeline → List State → Option Timeline
back_to t [] = None
back_to t (s ∷ past) = Some (record t { now = s; past = past })

-- one move back drops the state now; from the oldest state that is kept there is none
abbrev pub back : Timeline → Option Timeline
back t = back_to t t.past

-- ---- so many moves

-- k moves forward
unfoldable pub moved : {A : Type 0} → Program A → ℕ → Timeline → Timeline
moved p zero t = t
moved p (suc k) t = forward p (moved p k t)

-- k moves back, where as many are kept
unfoldable pub gone : ℕ → Timeline → Timeline
gone k t = record t { now = slice_index_or (t.now ∷ t.past) k t.now; past = drop k t.past }
