-- The kinds of moves, as one record each; and what each keeps in an undo record.
use Rattle.std.specs.Prelude.{ℕ, Bool, true, false, List, [], ◌∷◌, Option, Some, None}
use Rattle.qil_memory.specs.Undo.{Kept}
use Rattle.qil_code.specs.declared.numbered.Slot.{Slot}
use Rattle.qil_code.specs.declared.numbered.Receiver.{Receiver}
use Rattle.qil_frames.specs.declared.saved.SavedSlot.{SavedSlot}
use Rattle.qil_frames.specs.Frames.{SlotFrame, held, with_slot}
use Rattle.qil_state.specs.declared.status.Status.TheVariants.{Running}
use Rattle.qil_machine.specs.Moves.{Move, Place, stays, at}

-- ---- moves

abbrev pub one : Slot → Option ℕ → List SavedSlot
one s v = record { slot = s; value = v } ∷ []

-- of a running machine: slots of one frame, and where it stood
abbrev pub slots_move : Place → List SavedSlot → Move
slots_move place ks = record { added = false; popped = None; place = place; slots = ks; bytes = None; top = None; output = None; status = Some Running }

abbrev pub bytes_move : ℕ → ℕ → List ℕ → Move
bytes_move k a bs = record { added = false; popped = None; place = at k; slots = []; bytes = Some (record { address = a; bytes = bs }); top = None; output = None; status = Some Running }

abbrev pub called_move : ℕ → Move
called_move k = record { added = true; popped = None; place = at k; slots = []; bytes = None; top = None; output = None; status = Some Running }

-- what stood in the caller's slot for the result, if there is one
abbrev pub received : Option Receiver → Option ℕ → List SavedSlot
received None v = []
received (Some to) v = one to.slot v

abbrev pub held_by : Option Receiver → List SlotFrame → Option ℕ
held_by None fs = None
held_by (Some to) fs = held fs to.slot

abbrev pub with_received : Option Receiver → Option ℕ → SlotFrame → SlotFrame
with_received None v f = f
with_received (Some to) v f = with_slot to.slot v f

abbrev pub returned_move : SlotFrame → ℕ → Option ℕ → Move
returned_move f t v = record { added = false; popped = Some f; place = stays; slots = received f.result v; bytes = None; top = Some t; output = None; status = Some Running }

abbrev pub grown_move : ℕ → Slot → Option ℕ → Kept → Move
grown_move k s v saved = record { added = false; popped = None; place = at k; slots = one s v; bytes = Some (record { address = saved.address; bytes = saved.bytes }); top = Some saved.top; output = None; status = Some Running }

abbrev pub copied_move : ℕ → Kept → Move
copied_move k saved = record { added = false; popped = None; place = at k; slots = []; bytes = Some (record { address = saved.address; bytes = saved.bytes }); top = Some saved.top; output = None; status = Some Running }

-- bytes were written, after so many
abbrev pub wrote_move : ℕ → ℕ → List SavedSlot → Move
wrote_move k n ks = record { added = false; popped = None; place = at k; slots = ks; bytes = None; top = None; output = Some n; status = Some Running }

-- a fault, or an exit
abbrev pub ended_move : Move
ended_move = slots_move stays []

abbrev pub poked_slot_move : Slot → Option ℕ → Move
poked_slot_move s v = record { added = false; popped = None; place = stays; slots = one s v; bytes = None; top = None; output = None; status = None }

abbrev pub poked_bytes_move : ℕ → List ℕ → Move
poked_bytes_move a bs = record { added = false; popped = None; place = stays; slots = []; bytes = Some (record { address = a; bytes = bs }); top = None; output = None; status = None }

-- a value, where there is one
abbrev pub value_of : Bool → ℕ → Option ℕ
value_of true v = Some v
value_of false v = None
