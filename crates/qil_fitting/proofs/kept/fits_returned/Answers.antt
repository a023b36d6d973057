use Rattle.std.proofs.Common.{refl}
use Rattle.qil_fitting.proofs.Fitting.{returned_fits}
use Rattle.qil_fitting.proofs.kept.fits_returned.Goals as goal

pub returns : goal.returns
returns g c =
    let both = returned_fits c.args.machine.now c.args.machine.now c.args.frame.now c.args.top c.args.value refl c.calls.ensures.machine in (
      λ t. both.0 (rw (c.code.ensures, c.calls.ensures.value, c.from.ensures) at (c.may_return.ensures.0 t)),
      λ f. c.may_return.ensures.1 (rw (c.code.ensures, c.calls.ensures.value, c.from.ensures) (both.1 f)),
    )
