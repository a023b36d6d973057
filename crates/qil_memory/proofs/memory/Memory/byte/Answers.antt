use Rattle.std.proofs.Common.{refl}
use Rattle.qil_memory.proofs.OneByte.{byte_live, byte_dead}
use Rattle.qil_memory.proofs.memory.Memory.byte.Goals as goal

pub returns-in-Some-clause-value : goal.returns-in-Some-clause-value
returns-in-Some-clause-value g c = byte_live c.args.self.now c.args.address c.in-Some.bytes.now c.in-Some.ensures.memory (c.in-Some.ensures.live.0 refl) c.in-Some.ensures.bytes

pub returns-in-None-clause-value : goal.returns-in-None-clause-value
returns-in-None-clause-value g c = byte_dead c.args.self.now c.args.address c.in-None.ensures.memory c.in-None.ensures.live.1
