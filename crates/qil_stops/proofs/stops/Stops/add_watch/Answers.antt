-- A watch is added as it is: by hand, so that another one is refused at once.
use Rattle.qil_stops.proofs.stops.Stops.add_watch.Goals as goal

pub returns-clause-ok : goal.returns-clause-ok
returns-clause-ok g c = c.add.ensures.ok
