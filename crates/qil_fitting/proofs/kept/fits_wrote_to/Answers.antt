use Rattle.std.proofs.Common.{None, Some}
use Rattle.qil_state.specs.declared.status.Status.TheVariants.{Running}
use Rattle.qil_machine.specs.Moves.{at}
use Rattle.qil_machine.specs.Kinds.{one}
use Rattle.qil_fitting.proofs.Fitting.{fits_slot, fits_rest, fitting_slot}
use Rattle.qil_fitting.proofs.kept.fits_wrote_to.Goals as goal

pub returns-then-is_slot : goal.returns-then-is_slot
returns-then-is_slot g c = (
  λ t. fits_slot c.args.machine.now (at c.args.index) c.args.slot c.args.value None None (Some c.args.count) (Some Running) (c.is_slot_there-is_slot.ensures.slot.0 c.if-is_slot.true) (c.fits_wrote-is_count.ensures.0 t),
  λ f. c.fits_wrote-is_count.ensures.1 (fits_rest c.args.machine.now (at c.args.index) (one c.args.slot c.args.value) None None (Some c.args.count) (Some Running) f),
)

pub returns-else-is_slot : goal.returns-else-is_slot
returns-else-is_slot g c = (
  λ t. absurd (cc (t, c.if-is_slot.false)),
  λ f. c.is_slot_there-is_slot.ensures.slot.1 (fitting_slot c.args.machine.now (at c.args.index) c.args.slot c.args.value None None (Some c.args.count) (Some Running) f),
)
