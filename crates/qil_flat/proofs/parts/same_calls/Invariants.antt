use Rattle.std.proofs.Common.{◌≡◌, take}
use Rattle.qil_flat.specs.Cut.{outward}
use Rattle.qil_flat.proofs.parts.same_calls.Given as goal

abbrev pub invariant-loop-i : goal.invariant-loop-i
invariant-loop-i l = take l.i (outward l.left l.left_callers) ≡ take l.i (outward l.right l.right_callers)
