-- The timeline of what is kept: of a machine with its clones.
use Rattle.std.specs.Prelude.{◌≡◌, List, [], ◌∷◌, map, reverse, None}
use Rattle.qil_tree.specs.declared.tree.Program.{Program}
use Rattle.qil_semantics.specs.Timeline.{Timeline}
use Rattle.qil_state.specs.State.{Whole, state_of}

-- a machine, and those from before its moves, the latest last
pub record Cloned (A : Type 0) : Type 0 where
  pub machine : Whole A
  pub clones : List (Whole A)

-- all run this program
abbrev pub AllRun : {A : Type 0} → List (Whole A) → Program A → Type 0
AllRun [] p = Unit {0}
AllRun (m ∷ ms) p = (m.program ≡ p) × AllRun ms p

abbrev pub cloned_timeline : {A : Type 0} → Cloned A → Timeline
cloned_timeline k = record { now = state_of k.machine; past = map state_of (reverse k.clones); forgotten = 0; keeps = None }
