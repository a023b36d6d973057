use Rattle.std.proofs.Common.{None}
use Rattle.qil_machine.specs.Moves.{stays}
use Rattle.qil_fitting.proofs.Fitting.{poked_to, fitting_slot}
use Rattle.qil_fitting.proofs.kept.fits_poked_slot.Goals as goal

pub returns : goal.returns
returns g c = (
  λ t. poked_to c.args.machine.now c.args.slot c.args.value c.is_slot_there.ensures.machine (c.is_slot_there.ensures.slot.0 t),
  λ f. c.is_slot_there.ensures.slot.1 (fitting_slot c.args.machine.now stays c.args.slot c.args.value None None None None f),
)
