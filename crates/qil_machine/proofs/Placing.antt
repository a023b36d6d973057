-- The frames of a machine stand in its program, by names too.
use Rattle.std.proofs.Common.{◌≡◌, refl, ap, subst, ◌∙◌, ℕ, ◌≤◌, List, [], ◌∷◌, length, Option, Some, None}
use Rattle.std.specs.Prelude.{slice_get}
use Rattle.qil_tree.specs.declared.tree.Block.{Block}
use Rattle.qil_tree.specs.declared.tree.Func.{Func}
use Rattle.qil_tree.specs.declared.tree.Program.{Program}
use Rattle.qil_semantics.specs.State as meaning
use Rattle.qil_semantics.specs.Step.{func_named, block_labelled}
use Rattle.qil_code.specs.Facts.{Finds, KnowsLabels, jump_labels}
use Rattle.qil_code.specs.Numbered.{func_at, block_in, block_at}
use Rattle.qil_code.proofs.Has.{has-among}
use Rattle.qil_code.proofs.Edges.{label-found}
use Rattle.qil_frames.specs.Frames.{SlotFrame}
use Rattle.qil_state.specs.State.{Whole, state_of, func_name, label_in, frame_state, frames_state, FrameFits, FramesFit, PlaceFits, IsMachine}
use Rattle.qil_state.proofs.Place.{block_at_here}
use Rattle.qil_state.proofs.Leaving.{FuncHere, func_here}
use Rattle.qil_machine.specs.Placed.{HasLabels, IsPlaced, ArePlaced}

-- the block that a frame is in, and how far
record InBlock {A : Type 0} (func : Func A) (j k : ℕ) : Type 0 where
  block : Block A
  block_is : slice_get func.blocks j ≡ Some block
  index : k ≤ length block.insts

in_block : {A : Type 0} (func : Func A) (j k : ℕ) (o : Option (Block A)) → slice_get func.blocks j ≡ o → PlaceFits o k → InBlock func j k
in_block func j k None e place = absurd place
in_block func j k (Some b) e place = record { block = b; block_is = e; index = place }

has_labels : {A : Type 0} (p : Program A) (i : ℕ) (func : Func A) (j : ℕ) (b : Block A) → KnowsLabels p → func_at p i ≡ Some func → slice_get func.blocks j ≡ Some b → HasLabels func.blocks (jump_labels b.jump.kind)
has_labels p i func j b knows ef eb l among =
    let known = knows.known i func j b l ef eb among in
    let has = has-among _ l known.0 known.1 in
    let there = label-found func.blocks l has.0 has.1 in
    (there.block, there.found)

placed : {A : Type 0} (p : Program A) (f : SlotFrame) (fs : List SlotFrame) → Finds p → KnowsLabels p → FrameFits p f → IsPlaced p (frame_state p fs f)
placed {A} p f fs finds knows fits =
    let F : meaning.Frame = frame_state p fs f in
    let here : FuncHere p f = func_here p f fits in
    let at : block_at p f.func f.block ≡ slice_get here.func.blocks f.block = ap (λ (o : Option (Func A)). block_in o f.block) here.func_is in
    let inside : InBlock here.func f.block f.index = in_block here.func f.block f.index (slice_get here.func.blocks f.block) refl (rw at at fits.place) in
    let name : F.func ≡ here.func.name = ap (λ (o : Option (Func A)). func_name o) here.func_is in
    let label : F.label ≡ inside.block.label = ap (λ (o : Option (Block A)). label_in o) (block_at_here p f.func f.block here.func inside.block here.func_is inside.block_is) in
    record {
      func = here.func;
      func_is = ap (func_named p.funcs) name ∙ finds.func f.func here.func here.func_is;
      block = inside.block;
      block_is = ap (block_labelled here.func.blocks) label ∙ finds.block f.func here.func f.block inside.block here.func_is inside.block_is;
      index = inside.index;
      labels = has_labels p f.func here.func f.block inside.block knows here.func_is inside.block_is;
    }

all_placed : {A : Type 0} (p : Program A) (fs : List SlotFrame) → Finds p → KnowsLabels p → FramesFit p fs → ArePlaced p (frames_state p fs)
all_placed p [] finds knows fits = tt
all_placed p (f ∷ fs) finds knows fits = (placed p f fs finds knows fits.0, all_placed p fs finds knows fits.2)

pub machine_placed : {A : Type 0} (m now : Whole A) → m ≡ now → IsMachine m → Finds m.program → KnowsLabels m.program → ArePlaced now.program (state_of now).frames
machine_placed {A} m now same ok finds knows = subst (λ (x : Whole A). ArePlaced x.program (state_of x).frames) same (all_placed m.program m.frames finds knows ok.frames)
