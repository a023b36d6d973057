-- The machine has the state of the session.
use Rattle.std.proofs.Common.{◌∙◌, ap, length}
use Rattle.qil_semantics.specs.State.{State}
use Rattle.qrev_debuggee.proofs.debuggee.Debuggee.depth.Goals as goal

pub returns : goal.returns
returns g c = c.depth_of.ensures ∙ ap (λ (s : State). length s.frames) c.machine.ensures.now
