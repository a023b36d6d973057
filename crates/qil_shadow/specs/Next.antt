-- What comes next at the place of a frame, and the values that it reads.
use Rattle.std.specs.Prelude.{Option, Some, None, slice_get}
use Rattle.qil_tree.specs.declared.tree.InstKind.{InstKind}
use Rattle.qil_tree.specs.declared.tree.Inst.{Inst}
use Rattle.qil_tree.specs.declared.tree.Jump.{Jump}
use Rattle.qil_tree.specs.declared.tree.JumpKind.{JumpKind}
use Rattle.qil_tree.specs.declared.tree.Block.{Block}
use Rattle.qil_tree.specs.declared.tree.Func.{Func}
use Rattle.qil_tree.specs.declared.tree.Program.{Program}
use Rattle.qil_semantics.specs.State.{Frame}
use Rattle.qil_semantics.specs.Step.{func_named, block_labelled}

-- an instruction, or a jump of a function
pub data Next (A : Type 0) : Type 0 where
  nothing : Next A
  inst : InstKind A → Next A
  jump : Func A → JumpKind → Next A

abbrev pub next_at : {A : Type 0} → Func A → Option (Inst A) → Jump → Next A
next_at func (Some i) j = inst i.kind
next_at func None j = jump func j.kind

abbrev pub next_in_block : {A : Type 0} → Frame → Func A → Option (Block A) → Next A
next_in_block f func (Some b) = next_at func (slice_get b.insts f.index) b.jump
next_in_block f func None = nothing

abbrev pub next_in_func : {A : Type 0} → Frame → Option (Func A) → Next A
next_in_func f (Some func) = next_in_block f func (block_labelled func.blocks f.label)
next_in_func f None = nothing

-- what the step of a frame does
abbrev pub next_of : {A : Type 0} → Program A → Frame → Next A
next_of p f = next_in_func f (func_named p.funcs f.func)
