-- What is ahead of the machine is ahead of the state now.
use Rattle.qil_state.specs.State.{state_of}
use Rattle.qil_session.proofs.AccessAnswers.{ahead_at}
use Rattle.qil_session.proofs.accessing.ahead_of.Goals as goal

pub returns : goal.returns
returns g c =
    ahead_at (g.H.Runs.program c.args.history.now) _ (g.H.Runs.timeline c.args.history.now).now _ c.look_ahead.result c.machine.ensures.program c.machine.ensures.now c.look_ahead.ensures
