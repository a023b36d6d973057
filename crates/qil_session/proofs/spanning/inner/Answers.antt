-- What is read of the machine is so of the state now.
use Rattle.std.proofs.Common.{◌∙◌, ap, length}
use Rattle.qil_semantics.specs.State.{State}
use Rattle.qil_session.proofs.SpanAnswers.{innermost_of}
use Rattle.qil_session.proofs.spanning.inner.Goals as goal

pub returns-clause-depth : goal.returns-clause-depth
returns-clause-depth g c = c.look.ensures.depth ∙ ap (λ (s : State). length s.frames) c.machine.ensures.now

pub returns-clause-func : goal.returns-clause-func
returns-clause-func g c = innermost_of (g.H.Runs.program c.args.history.now) _ (g.H.Runs.timeline c.args.history.now).now _ c.look.result.func c.machine.ensures.program c.machine.ensures.now c.look.ensures.func
