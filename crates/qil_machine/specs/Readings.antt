-- What is read of temporaries by number, and by name.
use Rattle.std.specs.Prelude.{ℕ, Bool, ◌==◌, ◌&&◌, List, [], ◌∷◌, find, Option, None}
use Rattle.qil_semantics.specs.State.{Name, Frame}
use Rattle.qil_frames.specs.Frames.{SlotFrame}

-- the innermost frame of a function, where the innermost comes first
abbrev pub frame_of : ℕ → List SlotFrame → Option SlotFrame
frame_of i fs = find (λ f. f.func == i) fs

-- what a temporary of the innermost frame holds
abbrev pub temp_here : List Frame → Name → Option ℕ
temp_here [] x = None
temp_here (f ∷ fs) x = f.temps x

-- a frame is in a block of a function, with so many instructions done
abbrev pub stands_at : ℕ → ℕ → ℕ → SlotFrame → Bool
stands_at i b k f = (f.func == i) && ((f.block == b) && f.index == k)
