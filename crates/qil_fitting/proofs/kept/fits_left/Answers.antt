use Rattle.std.proofs.Common.{None, Some}
use Rattle.qil_state.specs.declared.status.Status.TheVariants.{Running}
use Rattle.qil_machine.specs.Moves.{end_of}
use Rattle.qil_fitting.proofs.Fitting.{fits_slots, fits_rest, fitting_slots}
use Rattle.qil_fitting.proofs.kept.fits_left.Goals as goal

pub returns-then-are_slots : goal.returns-then-are_slots
returns-then-are_slots g c = (
  λ t. fits_slots c.args.machine.now (end_of c.args.block) c.args.kept.now None None None (Some Running) (c.are_slots_there-are_slots.ensures.0 c.if-are_slots.true) (c.fits_end-is_block.ensures.0 t),
  λ f. c.fits_end-is_block.ensures.1 (fits_rest c.args.machine.now (end_of c.args.block) c.args.kept.now None None None (Some Running) f),
)

pub returns-else-are_slots : goal.returns-else-are_slots
returns-else-are_slots g c = (
  λ t. absurd (cc (t, c.if-are_slots.false)),
  λ f. c.are_slots_there-are_slots.ensures.1 (fitting_slots c.args.machine.now c.args.block c.args.kept.now f),
)
