-- How the run ended is told behind why it goes no further.
use Rattle.qrev_notices.specs.Conversation.{spoken}
use Rattle.qrev_notices.proofs.Replies.{told_then}
use Rattle.qrev_moving.proofs.travelling.tell_failed.Goals as goal

pub returns-clause-events : goal.returns-clause-events
returns-clause-events g c =
    let at = spoken g.W.Sink.contents in
    told_then (tt {0}) c.tell_end.result (at c.args.port.now) (at c.tell_log.new.port) (at c.tell_end.new.port) c.in_ok-tell_log.ensures c.tell_end.ensures.events
