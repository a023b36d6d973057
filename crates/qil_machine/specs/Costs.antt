-- What each kind of move weighs, by number; below the public calls.
use Rattle.std.specs.Prelude.{ℕ, ◌+◌, ◌-◌, ◌*◌, ◌==◌, ◌≤◌, if◌then◌else◌, List, [], ◌∷◌, length, Option, Some, None}
use Rattle.qil_tree.specs.declared.tree.Func.{Func}
use Rattle.qil_layout.specs.Layout.{width_bytes}
use Rattle.qil_semantics.specs.State as meaning
use Rattle.qil_semantics.specs.Cost.{entered_cost}
use Rattle.qil_code.specs.declared.numbered.NumberedInst.{NumberedInst}
use Rattle.qil_code.specs.declared.numbered.NumberedInst.TheVariants as insts
use Rattle.qil_code.specs.declared.numbered.NumberedJump.{NumberedJump}
use Rattle.qil_code.specs.declared.numbered.NumberedJump.TheVariants as jumps
use Rattle.qil_code.specs.declared.numbered.Receiver.{Receiver}
use Rattle.qil_frames.specs.Frames.{SlotFrame}
use Rattle.qil_state.specs.State.{Whole, head_func, frames_state}
use Rattle.qil_machine.specs.Moves.{Move, weight}

-- a move is kept, and it weighs that much at most
abbrev pub WeighsAtMost : (Move → Type 0) → ℕ → Type 0
WeighsAtMost kept n = (move : Move) × kept move × (weight move ≤ n)

-- how many slots take a result
abbrev pub receiver_count : Option Receiver → ℕ
receiver_count None = 0
receiver_count (Some to) = 1

-- a call, by the frames before it and after it: where one is added, the result is given later
abbrev pub called_weight : Option Receiver → List SlotFrame → List SlotFrame → ℕ
called_weight to old new = 4 + (if length old == length new then 2 * receiver_count to else 0)

abbrev pub inst_weight : {A : Type 0} → Whole A → Whole A → NumberedInst A → ℕ
inst_weight m w (insts.Assign c s e) = 6
inst_weight m w (insts.Alloc c s op n) = 6 + (w.memory.top - m.memory.top)
inst_weight m w (insts.Store width a b) = 4 + width_bytes width
inst_weight m w (insts.Blit a b n) = 4 + n
inst_weight m w (insts.Call to callee args) = called_weight to m.frames w.frames

-- what the phis of the block write that the innermost frame is in now
abbrev pub phis_written : {A : Type 0} → Option (Func A) → List meaning.Frame → List meaning.Frame → ℕ
phis_written None fs gs = 0
phis_written (Some func) [] gs = 0
phis_written (Some func) (f ∷ fs) gs = entered_cost func f.label gs

abbrev pub entered_weight : {A : Type 0} → Whole A → Whole A → ℕ
entered_weight m w = 4 + phis_written (head_func m.program m.frames) (frames_state m.program m.frames) (frames_state w.program w.frames)

abbrev pub returned_weight : List SlotFrame → ℕ
returned_weight [] = 4
returned_weight (f ∷ fs) = 4 + 2 * receiver_count f.result + length f.slots

abbrev pub jump_weight : {A : Type 0} → Whole A → Whole A → NumberedJump A → ℕ
jump_weight m w (jumps.Jmp e) = entered_weight m w
jump_weight m w (jumps.Jnz a e g) = entered_weight m w
jump_weight m w (jumps.Ret a) = returned_weight m.frames
jump_weight m w jumps.Hlt = 4
