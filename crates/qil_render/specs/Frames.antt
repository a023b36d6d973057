-- Lines of frames with numbered slots.
use Rattle.std.specs.Prelude.{ℕ, List, [], ◌∷◌, ◌++◌}
use Rattle.qil_tree.specs.declared.tree.Program.{Program}
use Rattle.qil_frames.specs.Frames.{SlotFrame}
use Rattle.qil_state.specs.State.{frame_state}
use Rattle.qil_render.specs.Texts.{frame_line}

-- the line of each frame, the innermost first
abbrev pub frame_lines : {A : Type 0} → Program A → List SlotFrame → List ℕ
frame_lines p [] = []
frame_lines p (f ∷ fs) = frame_line (frame_state p fs f) ++ frame_lines p fs
