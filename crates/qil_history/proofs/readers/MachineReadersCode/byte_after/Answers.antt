-- Answers to the goals of `byte_after`.
use Rattle.std.proofs.Common.{◌≡◌, ◌+◌, ◌≤◌, ◌<◌, ◌^◌, sym, arith}
use Rattle.qil_history.proofs.FarBytes.{dead_far}
use Rattle.qil_history.proofs.readers.MachineReadersCode.byte_after.Goals as goal

pub returns-in-None : goal.returns-in-None
returns-in-None g c = sym (dead_far c.args.self.now.memory (c.args.address + c.args.offset) (omega (arith, c.top-top.ensures)) (omega (arith, c.in-None.ensures)))
