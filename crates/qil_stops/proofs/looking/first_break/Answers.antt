-- The first of the stops is the first of those that they represent.
use Rattle.qil_state.specs.State.{state_of}
use Rattle.qil_stops.proofs.Naming.{first_break-by}
use Rattle.qil_stops.proofs.looking.first_break.Goals as goal

pub loop-stop-init : goal.loop-stop-init
loop-stop-init g c = first_break-by (g.M.HasCopies.present c.args.machine.now).program (state_of (g.M.HasCopies.present c.args.machine.now)) c.args.stops.now
