use Rattle.std.proofs.Common.{◌≡◌, ◌≤◌, take, vec_capacity}
use Rattle.qil_frames.proofs.frames.Frames.try_clone.Given as goal

abbrev pub invariant-loop-frame : goal.invariant-loop-frame
invariant-loop-frame g l = record {
  so_far : l.stack.items ≡ take l.frame-index l.frame-items;
  room : 1000 ≤ vec_capacity l.stack;
}
