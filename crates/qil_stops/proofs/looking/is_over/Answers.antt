-- The run of the machine is over where that of what it is read as is.
use Rattle.qil_stops.proofs.Told.{over-as}
use Rattle.qil_stops.proofs.looking.is_over.Goals as goal

pub returns : goal.returns
returns g c = over-as _ (g.M.HasCopies.present c.args.machine.now) c.is_final.result c.is_read.ensures c.is_final.ensures
