use Rattle.std.proofs.Common.{◌≡◌, take}
use Rattle.qil_flat.proofs.parts.same_slots.Given as goal

abbrev pub invariant-loop-i : goal.invariant-loop-i
invariant-loop-i l = take l.i l.left ≡ take l.i l.right
