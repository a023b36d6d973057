-- Without a function nothing changes.
use Rattle.std.proofs.Common.{◌≡◌, []}
use Rattle.qil_suspicions.proofs.pass.know_heap.Given as goal

abbrev pub invariant-loop-part : goal.invariant-loop-part
invariant-loop-part g l = l.heap ≡ [] → l.shadow ≡ l.fn.shadow
