-- How many calls are open, by the frames of a machine.
use Rattle.std.proofs.Common.{◌≡◌, refl, ap, sym, suc, ℕ, List, [], ◌∷◌, length}
use Rattle.qil_machine.specs.qil_frames.Frames.{SlotFrame}
use Rattle.qil_machine.specs.qil_state.State.{Whole, frames_state, state_of}
use Rattle.qil_tree.specs.declared.tree.Program.{Program}

frames_long : {A : Type 0} (p : Program A) (fs : List SlotFrame) → length (frames_state p fs) ≡ length fs
frames_long p [] = refl
frames_long p (f ∷ fs) = ap (λ (n : ℕ). suc n) (frames_long p fs)

-- a machine that represents a state has as many frames as calls are open
pub calls_are : {A : Type 0} (w : Whole A) → length w.frames ≡ length (state_of w).frames
calls_are w = sym (frames_long w.program w.frames)
