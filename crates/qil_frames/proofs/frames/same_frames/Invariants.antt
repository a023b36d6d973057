use Rattle.std.proofs.Common.{◌≡◌, take}
use Rattle.qil_frames.proofs.frames.same_frames.Given as goal

abbrev pub invariant-loop-i : goal.invariant-loop-i
invariant-loop-i g l = take l.i l.left ≡ take l.i l.right
