-- What undoing needs, from what a move fits.
use Rattle.std.proofs.Common.{◌≡◌, ℕ, ◌<◌, List, [], ◌∷◌, length, Option, sym, ap, subst, ◌∙◌}
use Rattle.std.proofs.lemmas.List.Elements.{recursion_from_All}
use Rattle.qil_code.specs.declared.numbered.Slot.{Slot}
use Rattle.qil_frames.specs.declared.saved.SavedSlot.{SavedSlot}
use Rattle.qil_frames.specs.Frames.{SlotFrame, HasSlot}
use Rattle.qil_state.specs.State.{Whole}
use Rattle.qil_machine.specs.Moves.{Move, Place, FitsFrame, Fits}
use Rattle.qil_machine.specs.Kinds.{one, poked_slot_move}

-- one slot that is put back is there
pub slot_there : (place : Place) (s : Slot) (v : Option ℕ) (fs : List SlotFrame) → FitsFrame place (one s v) fs → HasSlot fs s
slot_there place s v [] h = absurd (let e = h.1 in cc)
slot_there place s v (f ∷ fs) h = (recursion_from_All (λ (k : SavedSlot). k.slot.index < length f.slots) (one s v) h).0

pub slot_here : {A : Type 0} (m now : Whole A) (place : Place) (s : Slot) (v : Option ℕ) → m ≡ now → FitsFrame place (one s v) now.frames → HasSlot m.frames s
slot_here m now place s v same h = slot_there place s v m.frames (subst (λ (w : Whole _). FitsFrame place (one s v) w.frames) (sym same) h)

-- what an undo record fits, by its kind
pub poked_fits : {A : Type 0} (d : Move) (w : Whole A) (s : Slot) (v u : Option ℕ) → d ≡ poked_slot_move s v → u ≡ v → Fits d w → Fits (poked_slot_move s u) w
poked_fits d w s v u same e h = subst (λ (m : Move). Fits m w) (same ∙ ap (poked_slot_move s) (sym e)) h
