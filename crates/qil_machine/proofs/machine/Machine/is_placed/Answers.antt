-- Frames fit their program by number, and so by name.
use Rattle.qil_machine.proofs.Placing.{machine_placed}
use Rattle.qil_machine.proofs.machine.Machine.is_placed.Goals as goal

pub returns : goal.returns
returns g c = machine_placed _ c.args.self.now c.self.view_is c.self.invariant c.block.ensures.finds c.block.ensures.knows
