-- That the run is over is told, and then that it stands.
use Rattle.qrev_notices.specs.Conversation.{spoken}
use Rattle.qrev_notices.proofs.Replies.{told_then}
use Rattle.qrev_moving.proofs.travelling.tell_arrived.Goals as goal

pub returns-clause-events : goal.returns-clause-events
returns-clause-events g c =
    let at = spoken g.W.Sink.contents in
    told_then (tt {0}) c.tell_stopped.result (at c.args.port.now) (at c.tell_over.new.port) (at c.tell_stopped.new.port) c.in_ok-tell_over.ensures c.tell_stopped.ensures.events
