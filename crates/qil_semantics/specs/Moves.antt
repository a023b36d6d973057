-- Up to so many moves, and what they do to the list of states.
use Rattle.std.specs.Prelude.{◌≡◌, ◌≤◌, ◌⊎◌, ℕ, zero, suc, Bool, false, true, cond, min, List, [], ◌∷◌, ◌++◌, length, Option, Some}
use Rattle.qil_tree.specs.declared.tree.Program.{Program}
use Rattle.qil_semantics.specs.State.{State, is_final}
use Rattle.qil_semantics.specs.Step.{step_of}
use Rattle.qil_semantics.specs.Timeline.{Timeline, position, at_end, states, to, back, moved, gone}

-- the least number below n at which a test holds, and n where there is none
unfoldable pub least : (ℕ → Bool) → ℕ → ℕ
least test zero = zero
least test (suc n) = cond (test zero) zero (suc (least (λ k. test (suc k)) n))

-- moves forward up to the first final state, and n of them at most
abbrev pub forward_by : {A : Type 0} → Program A → ℕ → Timeline → Timeline
forward_by p n t = moved p (least (λ k. at_end (moved p k t)) n) t

-- n moves back, and no more than are kept
abbrev pub back_by : ℕ → Timeline → Timeline
back_by n t = gone (min n (length t.past)) t

-- ---- the same, said of the states

-- each of these states is the step of the one before it, which runs
abbrev pub AreSteps : {A : Type 0} → Program A → State → List State → Type 0
AreSteps p s [] = Unit {0}
AreSteps p s (next ∷ others) = (is_final s.status ≡ false) × (next ≡ step_of p s) × AreSteps p next others

-- these states are added one after the other
abbrev pub with_all : Timeline → List State → Timeline
with_all t [] = t
with_all t (s ∷ others) = with_all (to s t) others

-- states are added, each the step of the one before, which runs: n of them, or fewer where the last one is final
pub record GoesForward {A : Type 0} (p : Program A) (n : ℕ) (t u : Timeline) : Type 0 where
  pub added : List State
  pub grows : u ≡ with_all t added
  pub steps : AreSteps p t.now added
  pub few : length added ≤ n
  pub stops : (length added ≡ n) ⊎ (at_end u ≡ true)

-- the latest states are taken away: n of them, or fewer where the oldest is reached
pub record GoesBack (n : ℕ) (t u : Timeline) : Type 0 where
  pub dropped : List State
  pub shrinks : states t ≡ states u ++ dropped
  pub same : (u.forgotten ≡ t.forgotten) × (u.keeps ≡ t.keeps)
  pub few : length dropped ≤ n
  pub stops : (length dropped ≡ n) ⊎ (u.past ≡ [])

-- ---- a bounded timeline is the kept end of one that keeps everything

-- u has the state and the position of t, and of the states before it the newest ones, maybe not all
pub record IsKeptEnd (t u : Timeline) : Type 0 where
  pub same_state : u.now ≡ t.now
  pub same_position : position u ≡ position t
  pub forgot : List State
  pub newest : t.past ≡ u.past ++ forgot

-- t goes back to a timeline whose kept end is u
abbrev pub HasBack : Timeline → Timeline → Type 0
HasBack t u = (v : Timeline) × (back t ≡ Some v) × IsKeptEnd v u

-- what a move back from a move gives where n + 1 moves are kept: the kept end of the timeline from before, and all of it if
-- n moves or fewer were kept then
pub record Undone (n : ℕ) (t : Timeline) (result : Option Timeline) : Type 0 where
  pub before : Timeline
  pub gives : result ≡ Some before
  pub is_end : IsKeptEnd t before
  pub is_all : length t.past ≤ n → before ≡ t
