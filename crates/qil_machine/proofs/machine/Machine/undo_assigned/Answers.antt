use Rattle.qil_machine.specs.Moves.{at}
use Rattle.qil_machine.proofs.Undoing.{slot_here}
use Rattle.qil_machine.proofs.machine.Machine.undo_assigned.Goals as goal

pub assign-requires : goal.assign-requires
assign-requires g c = slot_here _ c.args.self.now (at c.args.index) c.args.slot c.args.value c.self.view_is c.requires.frame
