-- The goals of `grow` that the check leaves open.
use Rattle.std.proofs.Common.{arith}
use Rattle.qil_memory.proofs.Calling.{alloc_bytes}
use Rattle.qil_memory.proofs.memory.Memory.grow.Goals as goal

pub returns-clause-bytes : goal.returns-clause-bytes
returns-clause-bytes g c = alloc_bytes c.args.self.now _ _ _ _ _ c.top-top.ensures.memory c.top-top.ensures.value (omega (arith, c.in-Some.ensures.low)) (omega (arith, c.in-Some.ensures.high)) c.clear.ensures c.set_top.ensures.after
