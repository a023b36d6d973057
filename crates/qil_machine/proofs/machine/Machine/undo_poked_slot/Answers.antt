use Rattle.qil_machine.specs.Moves.{stays}
use Rattle.qil_machine.proofs.Undoing.{slot_here}
use Rattle.qil_machine.proofs.machine.Machine.undo_poked_slot.Goals as goal

pub set-requires : goal.set-requires
set-requires g c = slot_here _ c.args.self.now stays c.args.slot c.args.value c.self.view_is c.requires.frame
