-- What is put back fits where the innermost frame has all its slots.
use Rattle.std.proofs.Common.{ap, length}
use Rattle.qil_frames.specs.Enter.{LeftBlock}
use Rattle.qil_frames.proofs.Entering.{fits_innermost}
use Rattle.qil_frames.proofs.saved.PhiSaved.fits.Goals as goal

pub returns-then-depth-gt0 : goal.returns-then-depth-gt0
returns-then-depth-gt0 g c =
    fits_innermost c.args.self.now _ c.args.frames.now _ _ c.is_within.result (ap (λ (k : LeftBlock). k.slots) c.self.view_is) c.innermost.ensures (ap length c.slots.ensures.value) c.is_within.ensures
