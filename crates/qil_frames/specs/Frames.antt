-- Frames with numbered slots, and what is done to the innermost. Lists of frames have the innermost first.
use Rattle.std.specs.Prelude.{ℕ, ◌<◌, List, [], ◌∷◌, length, Option, None, get_or, slice_set}
use Rattle.qil_code.specs.declared.numbered.Slot.{Slot}
use Rattle.qil_code.specs.declared.numbered.Receiver.{Receiver}

-- A call that is not over: the numbers of a function and of a block of it, and how many instructions of the block are done.
-- A slot holds a value or is unset. The floor is the top of the stack from before the call. The result is the slot of the
-- caller that takes what is returned, if one does.
pub record SlotFrame : Type 0 where
  pub func : ℕ
  pub block : ℕ
  pub index : ℕ
  pub slots : List (Option ℕ)
  pub floor : ℕ
  pub result : Option Receiver

-- ---- the innermost frame

abbrev pub HasFrame : List SlotFrame → Type 0
HasFrame [] = ⊥
HasFrame (f ∷ fs) = Unit {0}

abbrev pub HasSlot : List SlotFrame → Slot → Type 0
HasSlot [] s = ⊥
HasSlot (f ∷ fs) s = s.index < length f.slots

-- what a slot of the innermost frame holds
abbrev pub held : List SlotFrame → Slot → Option ℕ
held [] s = None
held (f ∷ fs) s = get_or f.slots s.index None

abbrev pub on_innermost : (SlotFrame → SlotFrame) → List SlotFrame → List SlotFrame
on_innermost g [] = []
on_innermost g (f ∷ fs) = g f ∷ fs

abbrev pub with_slot : Slot → Option ℕ → SlotFrame → SlotFrame
with_slot s v f = record f { slots = slice_set f.slots s.index v }

abbrev pub at_index : ℕ → SlotFrame → SlotFrame
at_index k f = record f { index = k }

abbrev pub at_place : ℕ → ℕ → SlotFrame → SlotFrame
at_place b k f = record f { block = b; index = k }
