-- The goals of `set_top` that the check leaves open.
use Rattle.std.proofs.Common.{◌∙◌, ap}
use Rattle.qil_memory.specs.Buffers.{Buffers}
use Rattle.qil_memory.specs.Live.{live}
use Rattle.qil_memory.specs.Undo.{with_top}
use Rattle.qil_memory.proofs.LiveBytes.{live-lowered}
use Rattle.qil_memory.proofs.memory.Memory.set_top.Goals as goal

pub returns-clause-lowered : goal.returns-clause-lowered
returns-clause-lowered g c = λ h. ap (λ (m : Buffers). live (with_top m c.args.top)) c.self.view_is ∙ live-lowered c.args.self.now c.args.top c.requires.low h
