-- A state has as many frames as its machine.
use Rattle.qil_spans.proofs.Functions.{depth_here}
use Rattle.qil_spans.proofs.here.depth_of.Goals as goal

pub returns : goal.returns
returns g c = depth_here (g.M.Readers.whole c.args.machine.now) c.depth.result c.depth.ensures
