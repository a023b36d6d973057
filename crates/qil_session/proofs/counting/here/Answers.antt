-- Where the machine stands the state now does.
use Rattle.std.proofs.Common.{◌∙◌, ap}
use Rattle.qil_semantics.specs.State.{State, is_final}
use Rattle.qil_session.proofs.CountAnswers.{here_at}
use Rattle.qil_session.proofs.counting.here.Goals as goal

pub returns : goal.returns
returns g c = λ goes.
    here_at (g.H.Runs.program c.args.history.now) _ (g.H.Runs.timeline c.args.history.now).now _ c.place_here.result c.machine.ensures.program c.machine.ensures.now
    (c.place_here.ensures (ap (λ (s : State). is_final s.status) c.machine.ensures.now ∙ goes))
