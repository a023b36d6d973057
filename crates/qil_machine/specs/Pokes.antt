-- What a poke of a temporary does, and why it is refused.
use Rattle.std.specs.Prelude.{◌≡◌, ◌≤◌, ℕ, List, [], ◌∷◌, length, Option, Some, None, Result, Ok, Err, slice_get}
use Rattle.qil_tree.specs.declared.ops.Class.{Class}
use Rattle.qil_tree.specs.declared.tree.Program.{Program}
use Rattle.qil_ops.specs.Values.{width, low_bits}
use Rattle.qil_semantics.specs.State.{Name, Frame, State}
use Rattle.qil_semantics.specs.Step.{func_named}
use Rattle.qil_semantics.specs.Poke.{PokeFault, poke_temp, no_frame, unknown_temporary}
use Rattle.qil_code.specs.declared.numbered.Slot.{Slot}
use Rattle.qil_code.specs.Numbered.{names_in}
use Rattle.qil_frames.specs.Frames.{HasFrame, HasSlot, on_innermost, with_slot}
use Rattle.qil_state.specs.State.{Whole, state_of, head_names}
use Rattle.qil_machine.specs.declared.error.PokeError.{PokeError}
use Rattle.qil_machine.specs.declared.error.PokeError.TheVariants as errors

-- the innermost frame has the slot, and a poke of its temporary cuts the value to that class
pub record IsOfClass {A : Type 0} (w : Whole A) (s : Slot) (c : Class) : Type 0 where
  pub slot : HasSlot w.frames s
  pub poke : (x : Name) (v : ℕ) → slice_get (head_names w.program w.frames) s.index ≡ Some x
      → poke_temp w.program (state_of w) x v ≡ Ok (state_of (record w { frames = on_innermost (with_slot s (Some (low_bits (width c) v))) w.frames }))

-- no frame is left, or the innermost function has no temporary with that slot
abbrev pub Refuses : {A : Type 0} → Whole A → Slot → PokeError → Type 0
Refuses w s errors.NoFrame = (x : Name) (v : ℕ) → poke_temp w.program (state_of w) x v ≡ Err no_frame
Refuses w s errors.UnknownTemporary = HasFrame w.frames × (length (head_names w.program w.frames) ≤ s.index)
Refuses w s errors.DeadAddress = ⊥
Refuses w s errors.OutOfMemory = ⊥

-- the fault of a poke by name
abbrev pub RefusesName : {A : Type 0} → Whole A → Name → ℕ → PokeError → Type 0
RefusesName w x v errors.NoFrame = poke_temp w.program (state_of w) x v ≡ Err no_frame
RefusesName w x v errors.UnknownTemporary = poke_temp w.program (state_of w) x v ≡ Err unknown_temporary
RefusesName w x v errors.DeadAddress = ⊥
RefusesName w x v errors.OutOfMemory = ⊥

-- ---- by number

-- the names of the temporaries of the innermost frame, by slot
abbrev pub names_by_slot : {A : Type 0} → Program A → List Frame → List Name
names_by_slot p [] = []
names_by_slot p (f ∷ fs) = names_in (func_named p.funcs f.func)

abbrev pub poke_by : {A : Type 0} → Program A → State → ℕ → Option Name → Result State PokeFault
poke_by p s v None = Err unknown_temporary
poke_by p s v (Some x) = poke_temp p s x v

abbrev pub poke_slot_in : {A : Type 0} → Program A → State → List Frame → Slot → ℕ → Result State PokeFault
poke_slot_in p s [] slot v = Err no_frame
poke_slot_in p s (f ∷ fs) slot v = poke_by p s v (slice_get (names_by_slot p (f ∷ fs)) slot.index)

-- the state with that value for the temporary of a slot of the innermost frame
abbrev pub poke_slot : {A : Type 0} → Program A → State → Slot → ℕ → Result State PokeFault
poke_slot p s slot v = poke_slot_in p s s.frames slot v

-- the fault of a poke by slot
abbrev pub RefusesSlot : {A : Type 0} → Whole A → Slot → ℕ → PokeError → Type 0
RefusesSlot w slot v errors.NoFrame = poke_slot w.program (state_of w) slot v ≡ Err no_frame
RefusesSlot w slot v errors.UnknownTemporary = poke_slot w.program (state_of w) slot v ≡ Err unknown_temporary
RefusesSlot w slot v errors.DeadAddress = ⊥
RefusesSlot w slot v errors.OutOfMemory = ⊥
