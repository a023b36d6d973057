-- What is kept of slots as a list, and what phis make of slots.
use Rattle.std.specs.Prelude.{◌≡◌, ℕ, List, [], ◌∷◌, length, Option, Some, Result, Ok, Err}
use Rattle.qil_code.specs.declared.numbered.Slot.{Slot}
use Rattle.qil_code.specs.declared.numbered.PhiMove.{PhiMove}
use Rattle.qil_frames.specs.declared.saved.SavedSlot.{SavedSlot}
use Rattle.qil_frames.specs.declared.saved.KeptSlots.{KeptSlots}
use Rattle.qil_frames.specs.declared.saved.KeptSlots.TheVariants as kept
use Rattle.qil_frames.specs.Frames.{SlotFrame, at_place}
use Rattle.qil_frames.specs.Enter.{gathered, written, put_back, AreSlots, LeftBlock}

abbrev pub kept_slots : {A : Type 0} → KeptSlots A → List SavedSlot
kept_slots kept.None = []
kept_slots (kept.One s v) = record { slot = s; value = v } ∷ []
kept_slots (kept.Two s t v w) = record { slot = s; value = Some v } ∷ record { slot = t; value = Some w } ∷ []
kept_slots (kept.Short ks) = ks.value.items
kept_slots (kept.Many ks) = ks.value.items

-- the slots with the values written that phis gathered, or the first slot that is unset
abbrev pub slots_by : List (Option ℕ) → Result (List SavedSlot) Slot → Result (List (Option ℕ)) Slot
slots_by vs (Ok ks) = Ok (written ks vs)
slots_by vs (Err s) = Err s

-- phis were done on old slots and made the new ones, and what is kept puts the old ones back
pub record AreDone (ms : List PhiMove) (old new : List (Option ℕ)) (kept : List SavedSlot) : Type 0 where
  pub after : slots_by old (gathered old ms) ≡ Ok new
  pub undo : put_back kept new ≡ old
  pub fits : AreSlots kept (length old)
  pub count : length kept ≡ length ms

-- a frame is at the start of block b with the phis done, and what is kept is the rest of the frame that it was
pub record HasEntered (b : ℕ) (ms : List PhiMove) (old new : SlotFrame) (kept : LeftBlock) : Type 0 where
  pub frame : new ≡ at_place b 0 (record old { slots = new.slots })
  pub done : AreDone ms old.slots new.slots kept.slots
  pub block : kept.block ≡ old.block
  pub index : kept.index ≡ old.index
