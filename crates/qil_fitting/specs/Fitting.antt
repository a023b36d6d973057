-- What has to be looked at in a machine, to know that a move may be put back: places that exist, and nothing far from them.
use Rattle.std.specs.Prelude.{ℕ, ◌<◌, ◌≤◌, List, [], ◌∷◌, length, IsSome}
use Rattle.qil_tree.specs.declared.tree.Program.{Program}
use Rattle.qil_memory.specs.Buffers.{stack_base, stack_end}
use Rattle.qil_code.specs.Numbered.{block_at}
use Rattle.qil_frames.specs.declared.saved.SavedSlot.{SavedSlot}
use Rattle.qil_frames.specs.Frames.{SlotFrame}
use Rattle.qil_frames.specs.Enter.{AreSlots}
use Rattle.qil_state.specs.State.{PlaceFits, FrameFits, ReceiverFits}

-- the block that the innermost frame is in has an instruction at an index, or ends there
abbrev pub HasIndex : {A : Type 0} → Program A → List SlotFrame → ℕ → Type 0
HasIndex p [] k = ⊥
HasIndex p (f ∷ fs) k = PlaceFits (block_at p f.func f.block) k

-- the function of the innermost frame has a block
abbrev pub HasBlock : {A : Type 0} → Program A → List SlotFrame → ℕ → Type 0
HasBlock p [] b = ⊥
HasBlock p (f ∷ fs) b = IsSome (block_at p f.func b)

-- there is a frame, with all slots that are put back
abbrev pub HasSlots : List SlotFrame → List SavedSlot → Type 0
HasSlots [] ks = ⊥
HasSlots (f ∷ fs) ks = AreSlots ks (length f.slots)

-- there is a frame, and its floor isn't over a top
abbrev pub HasFloor : List SlotFrame → ℕ → Type 0
HasFloor [] t = ⊥
HasFloor (f ∷ fs) t = f.floor ≤ t

-- a floor isn't under that of the caller, nor under the stack
abbrev pub FloorFits : List SlotFrame → ℕ → Type 0
FloorFits [] x = stack_base ≤ x
FloorFits (f ∷ fs) x = f.floor ≤ x

-- a frame that may come back on these, with the top of the stack
pub record MayReturn {A : Type 0} (p : Program A) (fs : List SlotFrame) (f : SlotFrame) (t : ℕ) : Type 0 where
  pub few : length fs < 1000
  pub high : t ≤ stack_end
  pub floor : f.floor ≤ t
  pub low : FloorFits fs f.floor
  pub frame : FrameFits p f
  pub receiver : ReceiverFits fs f.result
