-- A watch may hold exactly where it reads otherwise than before: by hand, so that another test is refused at once.
use Rattle.qil_state.specs.State.{state_of}
use Rattle.qil_stops.proofs.Told.{watch_kept}
use Rattle.qil_stops.proofs.looking.may_be_met.Goals as goal

pub returns-in-Watch-clause-quiet : goal.returns-in-Watch-clause-quiet
returns-in-Watch-clause-quiet g c = λ same.
    watch_kept (g.M.HasCopies.present c.args.machine.now).program (state_of (g.M.HasCopies.present c.args.machine.now)) c.args.kind c.in-Watch.watched c.watched_reading.result c.args.before c.ne.result c.in-Watch.is c.watched_reading.ensures c.ne.ensures same
