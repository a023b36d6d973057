-- The calls that are left have the same one innermost of the function.
use Rattle.std.proofs.Common.{◌≡◌, ◌≤◌, length, take, reverse}
use Rattle.qil_machine.specs.Readings.{frame_of}
use Rattle.qil_flatmachine.proofs.machine.FlatMachine.innermost_of.Given as goal

abbrev pub invariant-loop-left : goal.invariant-loop-left
invariant-loop-left g l = record {
  inside : l.left ≤ length l.self.whole.frames;
  so_far : frame_of l.func.index (reverse (take l.left (reverse l.self.whole.frames))) ≡ frame_of l.func.index l.self.whole.frames;
}

abbrev pub decreases-loop-left : goal.decreases-loop-left
decreases-loop-left g l = l.left
