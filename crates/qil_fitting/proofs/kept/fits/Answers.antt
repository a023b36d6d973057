-- What an undo record is, its kind is.
use Rattle.std.proofs.Common.{◌↔◌, subst, IsTrue}
use Rattle.qil_machine.specs.Moves.{Fits}
use Rattle.qil_fitting.proofs.kept.fits.Goals as goal

pub returns : goal.returns
returns g c = subst (λ d. IsTrue c.fits_kind.result ↔ Fits d c.args.machine.now) c.kind.ensures c.fits_kind.ensures
