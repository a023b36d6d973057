-- What an expression reads of a state.
use Rattle.std.specs.Prelude.{◌≡◌, ℕ, ◌+◌, List, drop, Option, Some, None, slice_get, Result, Ok, Err}
use Rattle.qil_tree.specs.declared.tree.Program.{Program}
use Rattle.qil_frames.specs.Frames.{SlotFrame}
use Rattle.qil_state.specs.State.{frame_state}

-- a value that was read of a frame is what its temporary of this name holds
abbrev pub IsHeld : {A : Type 0} → Program A → List SlotFrame → SlotFrame → List ℕ → Option ℕ → Type 0
IsHeld p frames f name value = (k : ℕ) → slice_get frames k ≡ Some f → value ≡ (frame_state p (drop (k + 1) frames) f).temps name

-- the number that was read, if all its bytes are live
abbrev pub number_read : {E : Type 0} → Result ℕ E → Option ℕ
number_read (Ok v) = Some v
number_read (Err e) = None
