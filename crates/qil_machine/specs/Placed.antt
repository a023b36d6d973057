-- Where the frames of a state stand in their program.
use Rattle.std.specs.Prelude.{◌≡◌, ◌≤◌, List, [], ◌∷◌, length, Some}
use Rattle.qil_tree.specs.declared.tree.Block.{Block}
use Rattle.qil_tree.specs.declared.tree.Func.{Func}
use Rattle.qil_tree.specs.declared.tree.Program.{Program}
use Rattle.qil_rules.specs.Text.{IsAmong}
use Rattle.qil_semantics.specs.State.{Name, Frame}
use Rattle.qil_semantics.specs.Step.{func_named, block_labelled}
use Rattle.qil_code.specs.Facts.{jump_labels}

-- the program has a block of each of these labels
abbrev pub HasLabels : {A : Type 0} → List (Block A) → List Name → Type 0
HasLabels {A} blocks labels = (l : Name) → IsAmong l labels → (b : Block A) × (block_labelled blocks l ≡ Some b)

-- the frame's function and block are there, its index is that of an instruction or of the jump, and so are all blocks that
-- the jump may go to
pub record IsPlaced {A : Type 0} (p : Program A) (f : Frame) : Type 0 where
  pub func : Func A
  pub func_is : func_named p.funcs f.func ≡ Some func
  pub block : Block A
  pub block_is : block_labelled func.blocks f.label ≡ Some block
  pub index : f.index ≤ length block.insts
  pub labels : HasLabels func.blocks (jump_labels block.jump.kind)

abbrev pub ArePlaced : {A : Type 0} → Program A → List Frame → Type 0
ArePlaced p [] = Unit {0}
ArePlaced p (f ∷ fs) = IsPlaced p f × ArePlaced p fs
