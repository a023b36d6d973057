-- The difference was told, and then what is new.
use Rattle.qrev_notices.specs.Conversation.{spoken}
use Rattle.qrev_notices.proofs.Replies.{told_then}
use Rattle.qrev_notices.proofs.stopped.tell_new.Goals as goal

pub returns : goal.returns
returns g c =
    let at = spoken g.W.Sink.contents in
    told_then (tt {0}) c.tell_more.result (at c.args.port.now) (at c.tell_difference.new.port) (at c.tell_more.new.port) c.in_ok-tell_difference.ensures c.tell_more.ensures
