-- The response was sent, and then the event.
use Rattle.qrev_notices.specs.Conversation.{asked_by, spoken}
use Rattle.qrev_notices.proofs.Replies.{responded_then}
use Rattle.qrev_notices.proofs.refusals.refuse_text.Goals as goal

pub returns : goal.returns
returns g c =
    let at = spoken g.W.Sink.contents in
    responded_then (tt {0}) c.tell_refusal.result (asked_by c.args.request) (at c.args.port.now) (at c.refuse_with.new.port) (at c.tell_refusal.new.port) c.in_ok-refuse_with.ensures c.tell_refusal.ensures
