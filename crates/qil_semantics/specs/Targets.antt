-- Where `continue` and `reverse` come to stand, as least and greatest places: forward the least place that is a stop, back
-- the greatest position that is one, and of the reasons there the first.
use Rattle.std.specs.Prelude.{◌≡◌, ◌≢◌, ◌⊎◌, ℕ, zero, suc, ◌+◌, ◌<◌, true, false, List, ◌∷◌, Some, slice_get}
use Rattle.qil_tree.specs.declared.tree.Program.{Program}
use Rattle.qil_semantics.specs.State.{Frame, running, State, is_final}
use Rattle.qil_semantics.specs.Step.{step_of}
use Rattle.qil_semantics.specs.Timeline.{Timeline, position, oldest, state_at}
use Rattle.qil_semantics.specs.Stops.{Watched, reading, Place, place_of, Stop, break_at, watch, Numbered}
use Rattle.qil_semantics.specs.declared.reason.Reason.{Reason}
use Rattle.qil_semantics.specs.declared.reason.Reason.TheVariants.{End, Watch, Break, Start, Oldest, Limit, Memory}

-- ---- the order of reasons

-- Reasons are reported in this order, and among those of one kind the lower number first. `End` is none of going back, nor
-- `Start` and `Oldest` of going forward; running out of memory is no stop.
abbrev pub rank : Reason → ℕ
rank End = 0
rank (Watch n) = 1
rank (Break n) = 2
rank Start = 3
rank Oldest = 4
rank Limit = 5
rank Memory = 6

abbrev pub number_of : Reason → ℕ
number_of (Watch n) = n
number_of (Break n) = n
number_of reason = 0

abbrev pub IsBefore : Reason → Reason → Type 0
IsBefore r q = (rank r < rank q) ⊎ ((rank r ≡ rank q) × (number_of r < number_of q))

-- ---- stops

abbrev pub Has : List Numbered → ℕ → Stop → Type 0
Has stops n stop = (i : ℕ) × (slice_get stops i ≡ Some (record { number = n; stop = stop }))

-- the run goes on, and its innermost frame is at that place
abbrev pub IsAt : Place → State → Type 0
IsAt place s = (s.status ≡ running) × (f : Frame) × (fs : List Frame) × (s.frames ≡ f ∷ fs) × (place_of f ≡ place)

-- a stop halts a run that comes from one state to a neighbouring one
abbrev pub Halts : List Numbered → State → State → Reason → Type 0
Halts stops old new (Watch n) = (w : Watched) × Has stops n (watch w) × (reading w old ≢ reading w new)
Halts stops old new (Break n) = (place : Place) × Has stops n (break_at place) × IsAt place new
Halts stops old new reason = ⊥

-- ---- forward

-- the state after j steps
abbrev pub after : {A : Type 0} → Program A → State → ℕ → State
after p s zero = s
after p s (suc j) = step_of p (after p s j)

-- why a run forward from s stops after its j-th step
abbrev pub StopsForward : {A : Type 0} → Program A → List Numbered → ℕ → State → ℕ → Reason → Type 0
StopsForward p stops limit s zero reason = ⊥
StopsForward p stops limit s (suc i) End = is_final (after p s (suc i)).status ≡ true
StopsForward p stops limit s (suc i) Limit = suc i ≡ limit
StopsForward p stops limit s (suc i) reason = Halts stops (after p s i) (after p s (suc i)) reason

-- the least stop, and the first of its reasons
pub record ForwardTarget {A : Type 0} (p : Program A) (stops : List Numbered) (limit : ℕ) (s : State) (j : ℕ) (reason : Reason) : Type 0 where
  pub is_stop : StopsForward p stops limit s j reason
  pub least : (i : ℕ) (r : Reason) → i < j → StopsForward p stops limit s i r → ⊥
  pub is_first : (r : Reason) → IsBefore r reason → StopsForward p stops limit s j r → ⊥

-- ---- back

-- why going back along a timeline stops at its position j
abbrev pub StopsBack : List Numbered → ℕ → Timeline → ℕ → Reason → Type 0
StopsBack stops limit t j Start = j ≡ 0
StopsBack stops limit t j Oldest = (j ≡ oldest t) × (0 < j)
StopsBack stops limit t j Limit = position t ≡ j + limit
StopsBack stops limit t j reason =
    (later : State) × (s : State) × (state_at t (suc j) ≡ Some later) × (state_at t j ≡ Some s) × Halts stops later s reason

-- the greatest stop before now, and the first of its reasons
pub record BackTarget (stops : List Numbered) (limit : ℕ) (t : Timeline) (j : ℕ) (reason : Reason) : Type 0 where
  pub is_before : j < position t
  pub is_stop : StopsBack stops limit t j reason
  pub greatest : (i : ℕ) (r : Reason) → j < i → i < position t → StopsBack stops limit t i r → ⊥
  pub is_first : (r : Reason) → IsBefore r reason → StopsBack stops limit t j r → ⊥

-- ---- what `continue` and `reverse` come to: the reason, and how many moves were made

abbrev pub Comes : Reason → ℕ → Reason → ℕ → Type 0
Comes reason moves r n = (reason ≡ r) × (moves ≡ n)

-- without a move at a final state, or where the limit is 0; else at the target
abbrev pub Continues : {A : Type 0} → Program A → List Numbered → ℕ → Timeline → Reason → ℕ → Type 0
Continues p stops limit t reason moves =
    ((is_final t.now.status ≡ true) × Comes reason moves End 0)
    ⊎ (((is_final t.now.status ≡ false) × (limit ≡ 0) × Comes reason moves Limit 0)
    ⊎ ((is_final t.now.status ≡ false) × (0 < limit) × ForwardTarget p stops limit t.now moves reason))

-- without a move at the oldest state that is kept, or where the limit is 0; else at the target
abbrev pub Reverses : List Numbered → ℕ → Timeline → Reason → ℕ → Type 0
Reverses stops limit t reason moves =
    ((position t ≡ 0) × Comes reason moves Start 0)
    ⊎ (((position t ≡ oldest t) × (0 < position t) × Comes reason moves Oldest 0)
    ⊎ (((oldest t < position t) × (limit ≡ 0) × Comes reason moves Limit 0)
    ⊎ ((oldest t < position t) × (0 < limit) × (j : ℕ) × BackTarget stops limit t j reason × (moves + j ≡ position t))))
