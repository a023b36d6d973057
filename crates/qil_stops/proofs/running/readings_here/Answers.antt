-- What the machine says is so of the state that the history is at.
use Rattle.qil_stops.proofs.Telling.{reported-at}
use Rattle.qil_stops.proofs.running.readings_here.Goals as goal

pub returns-clause-reported : goal.returns-clause-reported
returns-clause-reported g c =
    reported-at _ _ _ _ c.args.list.now c.readings.result.items c.machine_of-machine.ensures.program c.machine_of-machine.ensures.now c.readings.ensures.reported
