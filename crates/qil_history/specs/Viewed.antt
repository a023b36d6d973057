-- A frame, of the parts that a reader sees.
use Rattle.std.specs.Prelude.{ℕ, List, Option}
use Rattle.qil_machine.specs.qil_code.declared.numbered.Receiver.{Receiver}
use Rattle.qil_machine.specs.qil_frames.Frames.{SlotFrame}

abbrev pub viewed : ℕ → ℕ → ℕ → List (Option ℕ) → ℕ → Option Receiver → SlotFrame
viewed f b k slots floor result = record { func = f; block = b; index = k; slots = slots; floor = floor; result = result }
