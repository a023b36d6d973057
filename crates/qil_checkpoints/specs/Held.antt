-- What a history over checkpoints holds: a machine with its copies, and the pokes.
use Rattle.std.specs.Prelude.{◌≡◌, ℕ, ◌≤◌, List, [], ◌∷◌, map, None}
use Rattle.qil_tree.specs.declared.tree.Program.{Program}
use Rattle.qil_semantics.specs.State.{running, State}
use Rattle.qil_semantics.specs.Timeline.{Timeline}
use Rattle.qil_state.specs.State.{Whole, state_of}
use Rattle.qil_checkpoints.specs.declared.poked.Poked.{Poked}
use Rattle.qil_checkpoints.specs.Walk.{ArePoked, walk, AreMoves, timeline_at}

-- the machine, which keeps the copies; the pokes; and how many moves were made, those too
pub record Held (M : Type 0) : Type 0 where
  pub machine : M
  pub pokes : List Poked
  pub position : ℕ

-- ---- the copies

-- a state, for want of another
abbrev pub nowhere : State
nowhere = record { frames = []; memory = λ a. None; top = 0; output = []; status = running }

-- the state of the first copy, which is never let go: the one that the run began with
abbrev pub first_of : List State → State
first_of [] = nowhere
first_of (s ∷ others) = s

-- the first position is that of the start
abbrev pub FromStart : List ℕ → Type 0
FromStart [] = ⊥
FromStart (k ∷ ks) = k ≡ 0

-- none is above n
abbrev pub AreUpTo : ℕ → List ℕ → Type 0
AreUpTo n [] = Unit {0}
AreUpTo n (k ∷ ks) = (k ≤ n) × AreUpTo n ks

-- each is come to by moves
abbrev pub AreComeTo : {A : Type 0} → Program A → State → List Poked → List ℕ → Type 0
AreComeTo p s pokes [] = Unit {0}
AreComeTo p s pokes (k ∷ ks) = AreMoves p s pokes k × AreComeTo p s pokes ks

-- ---- what is kept of a run

-- of the moves up to position n: all pokes, and copies of the walk's states at some positions, in any order, also behind n, where
-- the walk goes on by steps
pub record IsKept {A : Type 0} (p : Program A) (kept : List State) (positions : List ℕ) (pokes : List Poked) (n : ℕ) : Type 0 where
  pub copies : kept ≡ map (λ k. walk p (first_of kept) pokes k) positions
  pub start : FromStart positions
  pub come_to : AreComeTo p (first_of kept) pokes positions
  pub poked : ArePoked 0 pokes n
  pub moves : AreMoves p (first_of kept) pokes n

-- and the machine stands at the end of these moves
pub record Holds {A : Type 0} (w : Whole A) (kept : List State) (positions : List ℕ) (pokes : List Poked) (n : ℕ) : Type 0 where
  pub is_kept : IsKept w.program kept positions pokes n
  pub now : state_of w ≡ walk w.program (first_of kept) pokes n

-- the same with other copies, of which the first is still that of the start
pub record StillKept {A : Type 0} (p : Program A) (kept other : List State) (positions : List ℕ) (pokes : List Poked) (n : ℕ) : Type 0 where
  pub is_kept : IsKept p other positions pokes n
  pub first : first_of other ≡ first_of kept

-- it is kept at least up to a position
abbrev pub Reaches : {A : Type 0} → Program A → List State → List ℕ → List Poked → ℕ → Type 0
Reaches p kept positions pokes k = (n : ℕ) × (k ≤ n) × IsKept p kept positions pokes n

-- ---- the timeline

abbrev pub held_timeline : {A M : Type 0} → (M → Whole A) → (M → List State) → Held M → Timeline
held_timeline whole kept h = timeline_at (whole h.machine).program (first_of (kept h.machine)) h.pokes h.position
