-- What a move costs: 4; 2 for each temporary that it writes in a frame that was there before and stays; 1 for each byte of
-- memory that it writes over; and where a frame goes away, 1 for each temporary of its function. A step that faults costs 4.
use Rattle.std.specs.Prelude.{ℕ, ◌+◌, ◌-◌, ◌*◌, ◌==◌, if◌then◌else◌, List, [], ◌∷◌, length, flat_map, Option, Some, None, slice_get, Ok, Err}
use Rattle.qil_tree.specs.declared.tree.CallResult.{CallResult}
use Rattle.qil_tree.specs.declared.tree.Inst.{Inst}
use Rattle.qil_tree.specs.declared.tree.InstKind.{InstKind}
use Rattle.qil_tree.specs.declared.tree.InstKind.TheVariants as insts
use Rattle.qil_tree.specs.declared.tree.Jump.{Jump}
use Rattle.qil_tree.specs.declared.tree.JumpKind.{JumpKind}
use Rattle.qil_tree.specs.declared.tree.JumpKind.TheVariants as jumps
use Rattle.qil_tree.specs.declared.tree.Block.{Block}
use Rattle.qil_tree.specs.declared.tree.Func.{Func}
use Rattle.qil_tree.specs.declared.tree.Program.{Program}
use Rattle.qil_memory.specs.qil_layout.Layout.{width_bytes}
use Rattle.qil_semantics.specs.State.{Name, Frame, State}
use Rattle.qil_semantics.specs.Values.{Outcome}
use Rattle.qil_semantics.specs.Names.{temps_named}
use Rattle.qil_semantics.specs.Step.{phi_moves, func_named, block_labelled, in_func}

-- ---- what is written from one state to the next

-- how many temporaries take a result
abbrev pub result_count : Option CallResult → ℕ
result_count None = 0
result_count (Some to) = 1

-- by an instruction: all bytes from the old top to the new one, and a result but where a call adds a frame, which gives it later
abbrev pub inst_cost : {A : Type 0} → State → State → InstKind A → ℕ
inst_cost s t (insts.Assign to e) = 2
inst_cost s t (insts.Alloc to op n) = 2 + (t.top - s.top)
inst_cost s t (insts.Store w a b) = width_bytes w
inst_cost s t (insts.Blit a b n) = n
inst_cost s t (insts.Call to callee args) = if length s.frames == length t.frames then 2 * result_count to else 0

-- by the phis of a block, where another was left for it
abbrev pub phis_cost : {A : Type 0} → Name → Option (Block A) → ℕ
phis_cost left None = 0
phis_cost left (Some b) = 2 * length (flat_map (phi_moves left) b.phis)

-- by going to the block that the innermost frame is in now
abbrev pub entered_cost : {A : Type 0} → Func A → Name → List Frame → ℕ
entered_cost func left [] = 0
entered_cost func left (g ∷ gs) = phis_cost left (block_labelled func.blocks g.label)

-- by a jump; a return takes away a frame with its temporaries
abbrev pub jump_cost : {A : Type 0} → State → Frame → Func A → JumpKind → ℕ
jump_cost t f func (jumps.Jmp l) = entered_cost func f.label t.frames
jump_cost t f func (jumps.Jnz a l m) = entered_cost func f.label t.frames
jump_cost t f func (jumps.Ret a) = 2 * result_count f.result + length (temps_named func)
jump_cost t f func jumps.Hlt = 0

-- by what is at the place of a frame
abbrev pub place_cost : {A : Type 0} → State → State → Frame → Func A → Option (Inst A) → Jump → ℕ
place_cost s t f func (Some inst) jump = inst_cost s t inst.kind
place_cost s t f func None jump = jump_cost t f func jump.kind

abbrev pub block_cost : {A : Type 0} → State → State → Frame → Func A → Option (Block A) → ℕ
block_cost s t f func (Some b) = place_cost s t f func (slice_get b.insts f.index) b.jump
block_cost s t f func None = 0

abbrev pub func_cost : {A : Type 0} → State → State → Frame → Option (Func A) → ℕ
func_cost s t f (Some func) = block_cost s t f func (block_labelled func.blocks f.label)
func_cost s t f None = 0

-- ---- moves

abbrev pub outcome_cost : {A : Type 0} → State → Frame → Option (Func A) → Outcome State → ℕ
outcome_cost s f func (Ok t) = 4 + func_cost s t f func
outcome_cost s f func (Err fault) = 4

abbrev pub cost_in : {A : Type 0} → Program A → State → List Frame → ℕ
cost_in p s [] = 4
cost_in p s (f ∷ fs) = outcome_cost s f (func_named p.funcs f.func) (in_func p s f fs (func_named p.funcs f.func))

-- of the step that is next in a state
unfoldable pub cost_of : {A : Type 0} → Program A → State → ℕ
cost_of p s = cost_in p s s.frames

-- of a poke of a temporary, and of n bytes
abbrev pub temp_poke_cost : ℕ
temp_poke_cost = 6

abbrev pub bytes_poke_cost : ℕ → ℕ
bytes_poke_cost n = 4 + n
