-- What the machine says is so of the state that the history is at.
use Rattle.std.proofs.Common.{refl}
use Rattle.qil_stops.proofs.Telling.{found-at}
use Rattle.qil_stops.proofs.running.stopped_here.Goals as goal

pub returns : goal.returns
returns g c = λ old reported.
    found-at _ (g.H.History.program c.args.history.now) _ old (g.H.History.timeline c.args.history.now).now c.args.list.now c.args.before.now c.args.before.now c.stopped.result
    c.machine_of-machine.ensures.program c.machine_of-machine.ensures.now refl c.stopped.ensures reported
