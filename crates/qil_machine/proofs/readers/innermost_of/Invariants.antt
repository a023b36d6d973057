-- The frames that are left have the same one innermost of the function.
use Rattle.std.proofs.Common.{◌≡◌, ◌≤◌, length, take, reverse}
use Rattle.qil_machine.specs.Readings.{frame_of}
use Rattle.qil_machine.proofs.readers.innermost_of.Given as goal

abbrev pub invariant-loop-left : goal.invariant-loop-left
invariant-loop-left g l = record {
  inside : l.left ≤ length l.frames;
  so_far : frame_of l.func.index (reverse (take l.left l.frames)) ≡ frame_of l.func.index (reverse l.frames);
}

abbrev pub decreases-loop-left : goal.decreases-loop-left
decreases-loop-left g l = l.left
