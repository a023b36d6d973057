-- Where a running machine stands before a move of some kind.
use Rattle.std.specs.Prelude.{◌≡◌, ℕ, List, [], ◌∷◌, Result, Ok, Err}
use Rattle.qil_tree.specs.declared.tree.Program.{Program}
use Rattle.qil_code.specs.Numbered.{block_at}
use Rattle.qil_frames.specs.Frames.{SlotFrame}
use Rattle.qil_state.specs.declared.status.Status.TheVariants.{Running}
use Rattle.qil_state.specs.State.{Whole, PlaceFits, IsMachine}
use Rattle.qil_machine.specs.declared.error.StepError.{StepError}
use Rattle.qil_machine.specs.Moves.{Move, inst_count, undone, Fits}

abbrev pub IsRunning : {A : Type 0} → Whole A → Type 0
IsRunning w = w.status ≡ Running

-- the innermost frame is at the end of its block, and its function has another of that number
abbrev pub IsLeaving : {A : Type 0} → Program A → List SlotFrame → ℕ → Type 0
IsLeaving p [] to = ⊥
IsLeaving p (f ∷ fs) to = (f.index ≡ inst_count (block_at p f.func f.block)) × PlaceFits (block_at p f.func to) 0

-- a move from one machine to another: this is one, the move may be put back, and that gives the one before
pub record Made {A : Type 0} (d : Move) (m w : Whole A) : Type 0 where
  pub machine : IsMachine w
  pub fits : Fits d w
  pub undo : undone d w ≡ m

-- a move is kept, and leads from one machine to the other
pub record HasMade {A : Type 0} (kept : Move → Type 0) (m w : Whole A) : Type 0 where
  pub move : Move
  pub is_kept : kept move
  pub made : Made move m w

-- of a move that was made or wasn't, and of what is reported of it: if it was made it is kept, and else the same error is reported
abbrev pub IsPassedOn : {T : Type 0} → Result Move StepError → Result T StepError → (Move → Type 0) → Type 0
IsPassedOn (Ok move) (Ok reported) kept = kept move
IsPassedOn (Ok move) (Err error) kept = ⊥
IsPassedOn (Err why) (Ok reported) kept = ⊥
IsPassedOn (Err why) (Err error) kept = why ≡ error
