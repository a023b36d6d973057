-- All that a machine holds, and the state that it represents.
use Rattle.std.specs.Prelude.{◌≡◌, ℕ, ◌+◌, ◌<◌, ◌≤◌, ◌^◌, List, [], ◌∷◌, length, Option, Some, None, option_map}
use Rattle.qil_tree.specs.declared.tree.CallResult.{CallResult}
use Rattle.qil_tree.specs.declared.tree.Block.{Block}
use Rattle.qil_tree.specs.declared.tree.Func.{Func}
use Rattle.qil_tree.specs.declared.tree.Program.{Program}
use Rattle.qil_memory.specs.Buffers.{Buffers, stack_base}
use Rattle.qil_memory.specs.Live.{live}
use Rattle.qil_semantics.specs.State as meaning
use Rattle.qil_semantics.specs.State.{Name, State}
use Rattle.qil_semantics.specs.Slots.{temps_of}
use Rattle.qil_code.specs.declared.numbered.Receiver.{Receiver}
use Rattle.qil_code.specs.Named.{named_receiver}
use Rattle.qil_code.specs.Numbered.{func_at, block_at, names_of}
use Rattle.qil_code.specs.Reading.{labels_at}
use Rattle.qil_frames.specs.Frames.{SlotFrame, HasFrame}
use Rattle.qil_state.specs.declared.status.Status.{Status}
use Rattle.qil_state.specs.declared.status.Status.TheVariants.{Running, Done, Exited, Faulted}
use Rattle.qil_state.specs.Faults.{status_of}

-- the innermost frame comes first; of memory all bytes, dead ones too
pub record Whole (A : Type 0) : Type 0 where
  pub program : Program A
  pub frames : List SlotFrame
  pub memory : Buffers
  pub output : List ℕ
  pub status : Status

abbrev pub whole : {A : Type 0} → Program A → List SlotFrame → Buffers → List ℕ → Status → Whole A
whole p frames memory output status = record { program = p; frames = frames; memory = memory; output = output; status = status }

-- ---- the state that it represents

abbrev pub func_name : {A : Type 0} → Option (Func A) → Name
func_name None = []
func_name (Some func) = func.name

abbrev pub label_in : {A : Type 0} → Option (Block A) → Name
label_in None = []
label_in (Some b) = b.label

-- the names of the slots of the innermost frame
abbrev pub head_names : {A : Type 0} → Program A → List SlotFrame → List Name
head_names p [] = []
head_names p (f ∷ fs) = names_of p f.func

-- its function, and the labels of its blocks
abbrev pub head_func : {A : Type 0} → Program A → List SlotFrame → Option (Func A)
head_func p [] = None
head_func p (f ∷ fs) = func_at p f.func

abbrev pub head_labels : {A : Type 0} → Program A → List SlotFrame → List Name
head_labels p [] = []
head_labels p (f ∷ fs) = labels_at p f.func

-- the slot that takes a result is one of the caller's
abbrev pub result_of : {A : Type 0} → Program A → List SlotFrame → Option Receiver → Option CallResult
result_of p [] to = None
result_of p (g ∷ gs) to = option_map (named_receiver (names_of p g.func)) to

abbrev pub frame_state : {A : Type 0} → Program A → List SlotFrame → SlotFrame → meaning.Frame
frame_state p callers f = record {
  func = func_name (func_at p f.func);
  label = label_in (block_at p f.func f.block);
  index = f.index;
  temps = temps_of (names_of p f.func) f.slots;
  floor = f.floor;
  result = result_of p callers f.result;
}

abbrev pub frames_state : {A : Type 0} → Program A → List SlotFrame → List meaning.Frame
frames_state p [] = []
frames_state p (f ∷ fs) = frame_state p fs f ∷ frames_state p fs

abbrev pub state_of : {A : Type 0} → Whole A → State
state_of w = record {
  frames = frames_state w.program w.frames;
  memory = live w.memory;
  top = w.memory.top;
  output = w.output;
  status = status_of (head_names w.program w.frames) w.status;
}

-- ---- what the type of a machine keeps

abbrev pub PlaceFits : {A : Type 0} → Option (Block A) → ℕ → Type 0
PlaceFits None k = ⊥
PlaceFits (Some b) k = k ≤ length b.insts

-- the innermost frame is at an index, and its block has another after it
abbrev pub IsNext : {A : Type 0} → Program A → List SlotFrame → ℕ → Type 0
IsNext p [] k = ⊥
IsNext p (f ∷ fs) k = (f.index ≡ k) × PlaceFits (block_at p f.func f.block) (k + 1)

-- a frame stands in a block of the code, at an instruction or after the last, and has the slots of its function
pub record FrameFits {A : Type 0} (p : Program A) (f : SlotFrame) : Type 0 where
  pub place : PlaceFits (block_at p f.func f.block) f.index
  pub slots : length (names_of p f.func) ≡ length f.slots

-- the caller has the slot that takes a result; of the outermost frame none is taken
abbrev pub ReceiverFits : List SlotFrame → Option Receiver → Type 0
ReceiverFits fs None = Unit {0}
ReceiverFits [] (Some to) = ⊥
ReceiverFits (g ∷ gs) (Some to) = to.slot.index < length g.slots

abbrev pub FramesFit : {A : Type 0} → Program A → List SlotFrame → Type 0
FramesFit p [] = Unit {0}
FramesFit p (f ∷ fs) = FrameFits p f × ReceiverFits fs f.result × FramesFit p fs

-- floors never fall from outer to inner frames; none is under the stack's base or over the top
abbrev pub Floors : ℕ → List SlotFrame → Type 0
Floors top [] = stack_base ≤ top
Floors top (f ∷ fs) = (f.floor ≤ top) × Floors f.floor fs

-- only a run that is done has no frame
abbrev pub FramesFor : Status → List SlotFrame → Type 0
FramesFor (Done v) fs = fs ≡ []
FramesFor Running fs = HasFrame fs
FramesFor (Exited w) fs = HasFrame fs
FramesFor (Faulted f) fs = HasFrame fs

pub record IsMachine {A : Type 0} (w : Whole A) : Type 0 where
  pub few : length w.frames ≤ 1000
  pub frames : FramesFit w.program w.frames
  pub some : FramesFor w.status w.frames
  pub floors : Floors w.memory.top w.frames
  pub output : length w.output ≤ 2 ^ 20
