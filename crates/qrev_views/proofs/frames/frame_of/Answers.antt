-- The frame of a number.
use Rattle.qrev_views.proofs.Counted.{frame_found}
use Rattle.qrev_views.proofs.frames.frame_of.Goals as goal

pub returns : goal.returns
returns g c = frame_found c.frame.result (g.M.Readers.whole c.args.machine.now).frames c.args.number c.frame.ensures.frame c.if-number-eq0.false
