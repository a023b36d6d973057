-- What the machine shows after a move is so of the state now.
use Rattle.qil_session.proofs.AccessAnswers.{noted_at}
use Rattle.qil_session.proofs.accessing.note.Goals as goal

pub returns : goal.returns
returns g c = λ s is.
    noted_at (g.H.Runs.program c.args.history.now) _ c.args.start c.args.count c.args.position s (g.H.Runs.timeline c.args.history.now).now _ c.args.ahead c.args.list.now _ c.machine.ensures.program c.machine.ensures.now is c.note_move.ensures
