-- Going into a block: what its phis read and write, what is kept of that, and how it is put back.
use Rattle.std.specs.Prelude.{◌≡◌, ℕ, ◌<◌, List, [], ◌∷◌, length, Option, Some, None, get_or, slice_set, Result, Ok, Err, IsOk}
use Rattle.std.specs.List.{All}
use Rattle.qil_tree.specs.declared.ops.Class.{Class}
use Rattle.qil_ops.specs.Values.{width, low_bits}
use Rattle.qil_code.specs.declared.numbered.Slot.{Slot}
use Rattle.qil_code.specs.declared.numbered.NumberedOperand.{NumberedOperand}
use Rattle.qil_code.specs.declared.numbered.NumberedOperand.TheVariants as numbered_operands
use Rattle.qil_code.specs.declared.numbered.PhiMove.{PhiMove}
use Rattle.qil_code.specs.Ranges.{MoveInRange}
use Rattle.qil_frames.specs.declared.saved.SavedSlot.{SavedSlot}
use Rattle.qil_frames.specs.declared.saved.PhiFault.{PhiFault}
use Rattle.qil_frames.specs.declared.saved.PhiFault.TheVariants.{Unset, OutOfMemory}
use Rattle.qil_frames.specs.Frames.{SlotFrame, at_place}

-- ---- what is read

abbrev pub known : Class → Slot → Option ℕ → Result ℕ Slot
known c s (Some v) = Ok (low_bits (width c) v)
known c s None = Err s

-- an operand in a class: the low bits of the constant or of what the slot holds; or the slot, where it is unset
abbrev pub value_in : List (Option ℕ) → Class → NumberedOperand → Result ℕ Slot
value_in vs c (numbered_operands.Constant n) = Ok (low_bits (width c) n)
value_in vs c (numbered_operands.Slot s) = known c s (get_or vs s.index None)

abbrev pub write_to : Slot → ℕ → SavedSlot
write_to s v = record { slot = s; value = Some v }

abbrev pub onto : Slot → Result ℕ Slot → Result (List SavedSlot) Slot → Result (List SavedSlot) Slot
onto s (Err e) others = Err e
onto s (Ok v) (Err e) = Err e
onto s (Ok v) (Ok ks) = Ok (write_to s v ∷ ks)

-- what the phis write, all read in these slots; or the first slot that is unset
abbrev pub gathered : List (Option ℕ) → List PhiMove → Result (List SavedSlot) Slot
gathered vs [] = Ok []
gathered vs (m ∷ ms) = onto m.target (value_in vs m.class m.source) (gathered vs ms)

-- ---- what is written

-- the values in order: of two for one slot the later stays
abbrev pub written : List SavedSlot → List (Option ℕ) → List (Option ℕ)
written [] vs = vs
written (k ∷ ks) vs = written ks (slice_set vs k.slot.index k.value)

abbrev pub entered : ℕ → List SavedSlot → SlotFrame → SlotFrame
entered b ks f = at_place b 0 (record f { slots = written ks f.slots })

abbrev pub enters : ℕ → SlotFrame → List SlotFrame → Result (List SavedSlot) Slot → Result (List SlotFrame) Slot
enters b f fs (Ok ks) = Ok (entered b ks f ∷ fs)
enters b f fs (Err s) = Err s

-- the frames with the innermost at the start of a block, its phis written; or the first slot that is unset
abbrev pub entered_by : List SlotFrame → ℕ → List PhiMove → Result (List SlotFrame) Slot
entered_by [] b ms = Ok []
entered_by (f ∷ fs) b ms = enters b f fs (gathered f.slots ms)

-- out of memory comes only if no slot is unset
abbrev pub Explains : {X : Type 0} → PhiFault → Result X Slot → Type 0
Explains (Unset s) r = r ≡ Err s
Explains OutOfMemory r = IsOk r

-- ---- slots that are there

-- there is a frame, with all slots that the moves name
abbrev pub HasMoves : List SlotFrame → List PhiMove → Type 0
HasMoves [] ms = ⊥
HasMoves (f ∷ fs) ms = All (MoveInRange (length f.slots)) ms

-- ---- what is kept, and put back

-- the place that was left, and what the slots held that were written
pub record LeftBlock : Type 0 where
  pub block : ℕ
  pub index : ℕ
  pub slots : List SavedSlot

-- the values put back: of two for one slot the first stays
abbrev pub put_back : List SavedSlot → List (Option ℕ) → List (Option ℕ)
put_back [] vs = vs
put_back (k ∷ ks) vs = slice_set (put_back ks vs) k.slot.index k.value

abbrev pub returned : LeftBlock → SlotFrame → SlotFrame
returned kept f = at_place kept.block kept.index (record f { slots = put_back kept.slots f.slots })

abbrev pub AreSlots : List SavedSlot → ℕ → Type 0
AreSlots ks n = All (λ k. k.slot.index < n) ks

-- there is a frame, with all slots that are put back
abbrev pub Fits : LeftBlock → List SlotFrame → Type 0
Fits kept [] = ⊥
Fits kept (f ∷ fs) = AreSlots kept.slots (length f.slots)

-- the place that was left is that of the innermost frame
abbrev pub HasLeft : LeftBlock → List SlotFrame → Type 0
HasLeft kept [] = ⊥
HasLeft kept (f ∷ fs) = (kept.block ≡ f.block) × (kept.index ≡ f.index)
