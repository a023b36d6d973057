-- The walk of a run: the states at its positions, by the steps and by the pokes that were made in it.
use Rattle.std.specs.Prelude.{◌≡◌, ℕ, zero, suc, ◌+◌, ◌<◌, ◌≤◌, ◌==◌, nat_lt, Bool, false, cond, List, [], ◌∷◌, length, take, drop, Option, Some, None, Result, Ok, Err}
use Rattle.std.specs.List.{prefix_len}
use Rattle.std.specs.List.Sorted.{IsNonDecreasingBy}
use Rattle.qil_tree.specs.declared.tree.Program.{Program}
use Rattle.qil_memory.specs.Calls.{IsWidth}
use Rattle.qil_semantics.specs.State.{State, is_final}
use Rattle.qil_semantics.specs.Step.{step_of}
use Rattle.qil_semantics.specs.Poke.{PokeFault, poke_memory}
use Rattle.qil_semantics.specs.Timeline.{Timeline}
use Rattle.qil_machine.specs.Pokes.{poke_slot}
use Rattle.qil_checkpoints.specs.declared.poked.KeptPoke.{KeptPoke}
use Rattle.qil_checkpoints.specs.declared.poked.KeptPoke.TheVariants as pokes
use Rattle.qil_checkpoints.specs.declared.poked.Poked.{Poked}

-- ---- pokes

-- the state after a poke, or why it is refused
abbrev pub after_poke : {A : Type 0} → Program A → State → KeptPoke → Result State PokeFault
after_poke p s (pokes.Slot slot v) = poke_slot p s slot v
after_poke p s (pokes.Bytes a n v) = poke_memory s a n v

-- memory is poked by 1, 2, 4 or 8 bytes
abbrev pub HasWidth : KeptPoke → Type 0
HasWidth (pokes.Slot slot v) = Unit {0}
HasWidth (pokes.Bytes a n v) = IsWidth n

-- the poke that was made at a position, if one was
abbrev pub poke_at : List Poked → ℕ → Option KeptPoke
poke_at [] n = None
poke_at (q ∷ qs) n = cond (q.position == n) (Some q.poke) (poke_at qs n)

-- pokes at rising positions, from low on and below high
abbrev pub ArePoked : ℕ → List Poked → ℕ → Type 0
ArePoked low [] high = low ≤ high
ArePoked low (q ∷ qs) high = (low ≤ q.position) × HasWidth q.poke × ArePoked (q.position + 1) qs high

-- each was made where the one before it was, or later
abbrev pub AreRising : List Poked → Type 0
AreRising pokes = IsNonDecreasingBy (λ q. q.position) pokes

-- how many were made before position n
abbrev pub is_before : ℕ → Poked → Bool
is_before n q = nat_lt q.position n

abbrev pub count_before : ℕ → List Poked → ℕ
count_before n pokes = prefix_len (is_before n) pokes

-- those of them that were made from one position on and before another
abbrev pub part_of : List Poked → ℕ → ℕ → List Poked
part_of pokes from to = take (count_before to (drop (count_before from pokes) pokes)) (drop (count_before from pokes) pokes)

-- between these positions the part has all pokes
abbrev pub IsPart : List Poked → List Poked → ℕ → ℕ → Type 0
IsPart pokes part from to = (j : ℕ) → from ≤ j → j < to → poke_at pokes j ≡ poke_at part j

-- ---- the walk

-- a poke that is refused changes nothing
abbrev pub or_stays : State → Result State PokeFault → State
or_stays s (Ok next) = next
or_stays s (Err why) = s

-- the state after a move from s, which is the poke that was made there, or a step
abbrev pub next_by : {A : Type 0} → Program A → Option KeptPoke → State → State
next_by p None s = step_of p s
next_by p (Some poke) s = or_stays s (after_poke p s poke)

-- the state at position n of the walk that begins with s
unfoldable pub walk : {A : Type 0} → Program A → State → List Poked → ℕ → State
walk p s pokes zero = s
walk p s pokes (suc n) = next_by p (poke_at pokes n) (walk p s pokes n)

-- those before it, the latest first
unfoldable pub walked : {A : Type 0} → Program A → State → List Poked → ℕ → List State
walked p s pokes zero = []
walked p s pokes (suc n) = walk p s pokes n ∷ walked p s pokes n

-- the whole walk up to position n: nothing is ever forgotten
abbrev pub timeline_at : {A : Type 0} → Program A → State → List Poked → ℕ → Timeline
timeline_at p s pokes n = record { now = walk p s pokes n; past = walked p s pokes n; forgotten = 0; keeps = None }

-- ---- the same, said of neighbouring states

-- a move leads from a state to the next: the poke that was made there, which isn't refused, or the step of a state that runs
abbrev pub IsMove : {A : Type 0} → Program A → Option KeptPoke → State → State → Type 0
IsMove p None s next = (is_final s.status ≡ false) × (next ≡ step_of p s)
IsMove p (Some poke) s next = after_poke p s poke ≡ Ok next

-- each move up to position n is one
abbrev pub AreMoves : {A : Type 0} → Program A → State → List Poked → ℕ → Type 0
AreMoves p s pokes n = (j : ℕ) → j < n → IsMove p (poke_at pokes j) (walk p s pokes j) (walk p s pokes (suc j))

-- from the state now back to the first, s: each is a move from the one before it
abbrev pub LeadsBack : {A : Type 0} → Program A → List Poked → State → State → List State → Type 0
LeadsBack p pokes s now [] = now ≡ s
LeadsBack p pokes s now (before ∷ past) = IsMove p (poke_at pokes (length past)) before now × LeadsBack p pokes s before past

-- t has all states from s on, and each is a move from the one before it
pub record IsWalk {A : Type 0} (p : Program A) (s : State) (pokes : List Poked) (n : ℕ) (t : Timeline) : Type 0 where
  pub leads : LeadsBack p pokes s t.now t.past
  pub long : length t.past ≡ n
  pub whole : (t.forgotten ≡ 0) × (t.keeps ≡ None)
