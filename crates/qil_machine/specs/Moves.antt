-- What a move keeps, one record for all kinds, and the machine that it gives back.
use Rattle.std.specs.Prelude.{◌≡◌, ℕ, ◌+◌, ◌*◌, ◌≤◌, Bool, true, false, List, [], ◌∷◌, length, take, Option, Some, None}
use Rattle.qil_tree.specs.declared.tree.Block.{Block}
use Rattle.qil_tree.specs.declared.tree.Program.{Program}
use Rattle.qil_memory.specs.Buffers.{Buffers, stack_base, stack_end}
use Rattle.qil_memory.specs.Undo.{with_bytes, with_top}
use Rattle.qil_memory.specs.Places.{HasPlaces}
use Rattle.qil_code.specs.Numbered.{block_at}
use Rattle.qil_frames.specs.declared.saved.SavedSlot.{SavedSlot}
use Rattle.qil_frames.specs.Frames.{SlotFrame, HasFrame, on_innermost, at_index, at_place}
use Rattle.qil_frames.specs.Enter.{put_back, AreSlots}
use Rattle.qil_state.specs.declared.status.Status.{Status}
use Rattle.qil_state.specs.State.{Whole, whole, IsMachine}

-- the place that is kept: none, an index of the block that the frame is in, or the end of another block
pub data Place : Type 0 where
  stays : Place
  at : ℕ → Place
  end_of : ℕ → Place

pub record Bytes : Type 0 where
  pub address : ℕ
  pub bytes : List ℕ

-- Whether a frame was added; the frame that went away; of the innermost frame of before, the place and the slots; bytes
-- of memory, the top, the length of the output, and the status. None is what stays as it is.
pub record Move : Type 0 where
  pub added : Bool
  pub popped : Option SlotFrame
  pub place : Place
  pub slots : List SavedSlot
  pub bytes : Option Bytes
  pub top : Option ℕ
  pub output : Option ℕ
  pub status : Option Status

-- ---- putting back

-- how many instructions a block has
abbrev pub inst_count : {A : Type 0} → Option (Block A) → ℕ
inst_count None = 0
inst_count (Some b) = length b.insts

abbrev pub without : Bool → List SlotFrame → List SlotFrame
without false fs = fs
without true [] = []
without true (f ∷ fs) = fs

abbrev pub placed : {A : Type 0} → Program A → Place → SlotFrame → SlotFrame
placed p stays f = f
placed p (at k) f = at_index k f
placed p (end_of b) f = at_place b (inst_count (block_at p f.func b)) f

abbrev pub frame_back : {A : Type 0} → Program A → Place → List SavedSlot → SlotFrame → SlotFrame
frame_back p place ks f = placed p place (record f { slots = put_back ks f.slots })

abbrev pub with_popped : Option SlotFrame → List SlotFrame → List SlotFrame
with_popped None fs = fs
with_popped (Some f) fs = f ∷ fs

abbrev pub frames_back : {A : Type 0} → Program A → Move → List SlotFrame → List SlotFrame
frames_back p d fs = with_popped d.popped (on_innermost (frame_back p d.place d.slots) (without d.added fs))

abbrev pub bytes_back : Option Bytes → Buffers → Buffers
bytes_back None m = m
bytes_back (Some b) m = with_bytes m b.address b.bytes

abbrev pub top_back : Option ℕ → Buffers → Buffers
top_back None m = m
top_back (Some t) m = with_top m t

abbrev pub output_back : Option ℕ → List ℕ → List ℕ
output_back None out = out
output_back (Some n) out = take n out

abbrev pub status_back : Option Status → Status → Status
status_back None s = s
status_back (Some s) t = s

-- the machine before a move
abbrev pub undone : {A : Type 0} → Move → Whole A → Whole A
undone d w =
    whole w.program (frames_back w.program d w.frames) (top_back d.top (bytes_back d.bytes w.memory)) (output_back d.output w.output) (status_back d.status w.status)

-- ---- when a move may be put back

abbrev pub FitsFrame : Place → List SavedSlot → List SlotFrame → Type 0
FitsFrame place ks [] = (place ≡ stays) × (ks ≡ [])
FitsFrame place ks (f ∷ fs) = AreSlots ks (length f.slots)

abbrev pub FitsBytes : Option Bytes → Buffers → Type 0
FitsBytes None m = Unit {0}
FitsBytes (Some b) m = HasPlaces m b.address b.bytes

abbrev pub FitsTop : Option ℕ → Type 0
FitsTop None = Unit {0}
FitsTop (Some t) = (stack_base ≤ t) × (t ≤ stack_end)

abbrev pub FitsOutput : Option ℕ → List ℕ → Type 0
FitsOutput None out = Unit {0}
FitsOutput (Some n) out = n ≤ length out

-- all places exist, and what is given back is a machine
pub record Fits {A : Type 0} (d : Move) (w : Whole A) : Type 0 where
  pub added : d.added ≡ true → HasFrame w.frames
  pub frame : FitsFrame d.place d.slots (without d.added w.frames)
  pub bytes : FitsBytes d.bytes w.memory
  pub top : FitsTop d.top
  pub output : FitsOutput d.output w.output
  pub machine : IsMachine (undone d w)

-- ---- weight

abbrev pub byte_count : Option Bytes → ℕ
byte_count None = 0
byte_count (Some b) = length b.bytes

abbrev pub slot_count : Option SlotFrame → ℕ
slot_count None = 0
slot_count (Some f) = length f.slots

-- 4, and for each value of a slot 2, for each byte 1, for each slot of a frame 1
abbrev pub weight : Move → ℕ
weight d = 4 + 2 * length d.slots + byte_count d.bytes + slot_count d.popped
