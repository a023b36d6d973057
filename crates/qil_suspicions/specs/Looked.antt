-- What comes of a look at the next step of a machine.
use Rattle.std.specs.Prelude.{◌≡◌, ℕ, ◌-◌, ◌^◌, ◌<◌, false, List, [], Some, slice_get}
use Rattle.qil_semantics.specs.State.{is_final}
use Rattle.qil_semantics.specs.Step.{step_of}
use Rattle.qil_code.specs.Facts as facts
use Rattle.qil_code.specs.Facts.{NumbersBlocks}
use Rattle.qil_frames.specs.Frames.{SlotFrame}
use Rattle.qil_state.specs.State.{Whole, IsMachine, state_of}
use Rattle.qil_shadow.specs.declared.suspicion.Place.{Place}
use Rattle.qil_shadow.specs.declared.shadow.Shadow.{Shadow}
use Rattle.qil_shadow.specs.Kept.{Keeps}
use Rattle.qil_shadow.specs.Steps.{Finds, HasFollowed}
use Rattle.qil_suspicions.specs.declared.notes.Note.{Note}
use Rattle.qil_suspicions.specs.Adding.{with_notes}
use Rattle.qil_suspicions.specs.Run.{CanStep}

abbrev pub place_at : SlotFrame → Place
place_at f = record { func = record { index = f.func }; block = record { index = f.block }; index = f.index }

-- the shadow's step
pub record HasStepped {A : Type 0} (w : Whole A) (was now : Shadow A) : Type 0 where
  pub found : CanStep w was → Finds w.program (state_of w) was now
  pub next : CanStep w was → was.position < 2 ^ 64 - 1 → is_final (step_of w.program (state_of w)).status ≡ false → HasFollowed w.program (state_of w) was now

-- what was found is noted, at the place of a frame
pub record AreFound {A : Type 0} (f : SlotFrame) (was now : Shadow A) (old new : List Note) : Type 0 where
  pub keeps : Keeps was now
  pub none : now.found.items ≡ []
  pub notes : new ≡ with_notes (place_at f) was.found.items old

-- both, one after the other
pub record HasLooked {A : Type 0} (w : Whole A) (was now : Shadow A) (old new : List Note) : Type 0 where
  pub finds : facts.Finds w.program
  pub numbers : NumbersBlocks w.program
  pub machine : IsMachine w
  pub frame : SlotFrame
  pub innermost : slice_get w.frames 0 ≡ Some frame
  pub stepped : Shadow A
  pub step : HasStepped w was stepped
  pub found : AreFound frame stepped now old new
