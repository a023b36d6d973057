-- Each call has its frame.
use Rattle.std.proofs.Common.{◌∙◌}
use Rattle.qrev_debuggee.proofs.Depth.{calls_are}
use Rattle.qrev_debuggee.proofs.debuggee.depth_of.Goals as goal

pub returns : goal.returns
returns g c = c.depth.ensures ∙ calls_are (g.M.Readers.whole c.args.machine.now)
