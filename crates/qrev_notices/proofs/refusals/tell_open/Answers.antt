-- The response was sent, and then the event.
use Rattle.qrev_notices.specs.Conversation.{asked_by, spoken}
use Rattle.qrev_notices.proofs.Replies.{responded_then}
use Rattle.qrev_notices.proofs.refusals.tell_open.Goals as goal

pub returns : goal.returns
returns g c =
    let at = spoken g.W.Sink.contents in
    responded_then (tt {0}) c.tell_plain.result (asked_by c.args.request) (at c.args.port.now) (at c.accept.new.self) (at c.tell_plain.new.port) c.in_ok-accept.ensures c.tell_plain.ensures.events
