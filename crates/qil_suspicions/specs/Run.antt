-- What is seen of a run that is checked, and what is noted of it.
use Rattle.std.specs.Prelude.{◌≡◌, ℕ, List, [], map}
use Rattle.qil_semantics.specs.State.{State}
use Rattle.qil_state.specs.State.{Whole, state_of}
use Rattle.qil_shadow.specs.declared.shadow.Shadow.{Shadow}
use Rattle.qil_shadow.specs.Suspicions.{suspicions}
use Rattle.qil_shadow.specs.Steps.{IsRuled, StandsBeside, shadow_of, HasRoom}
use Rattle.qil_suspicions.specs.declared.notes.Note.{Note}
use Rattle.qil_suspicions.specs.Notes.{noted}
use Rattle.qil_suspicions.specs.Adding.{note_named}

-- the machine by numbers, the shadow of its state, the notes, and how many moves were made
pub record CheckedRun (A : Type 0) : Type 0 where
  pub whole : Whole A
  pub shadow : Shadow A
  pub notes : List Note
  pub moves : ℕ

-- the shadow stands beside the machine, whose program keeps the rules of the language
pub record CanStep {A : Type 0} (w : Whole A) (sh : Shadow A) : Type 0 where
  pub beside : StandsBeside w.program (state_of w) sh
  pub room : HasRoom w.program (state_of w)
  pub ruled : IsRuled w.program

-- and nothing was looked at
pub record IsAtStart {A : Type 0} (r : CheckedRun A) : Type 0 where
  pub stands : CanStep r.whole r.shadow
  pub fresh : r.shadow.found.items ≡ []
  pub first : r.shadow.position ≡ 0
  pub none : r.notes ≡ []

-- by names the notes are those of the suspicions of so many moves from a state
abbrev pub HasNoted : {A : Type 0} → CheckedRun A → CheckedRun A → Type 0
HasNoted r q =
    map (note_named r.whole.program) q.notes
    ≡ noted (suspicions r.whole.program (state_of r.whole) (shadow_of r.whole.program (state_of r.whole) r.shadow) q.moves)
