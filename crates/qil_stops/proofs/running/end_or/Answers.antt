-- The end is told exactly where the run is over: by hand, so that the other reason is refused at once.
use Rattle.std.proofs.Common.{true, false}
use Rattle.qil_stops.proofs.Telling.{end-told}
use Rattle.qil_stops.proofs.running.end_or.Goals as goal

pub returns-then-is_over : goal.returns-then-is_over
returns-then-is_over g c = end-told _ (g.H.History.timeline c.args.history.now).now c.is_over.result true c.args.other c.machine_of.ensures.now c.is_over.ensures c.if-is_over.true

pub returns-else-is_over : goal.returns-else-is_over
returns-else-is_over g c = end-told _ (g.H.History.timeline c.args.history.now).now c.is_over.result false c.args.other c.machine_of.ensures.now c.is_over.ensures c.if-is_over.false
