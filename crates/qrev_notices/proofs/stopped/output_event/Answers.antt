-- The end of its body is added.
use Rattle.qrev_notices.proofs.Replies.{event_grows}
use Rattle.qrev_notices.proofs.stopped.output_event.Goals as goal

pub returns : goal.returns
returns g c = event_grows c.in_ok-body.body.out c.in_ok-message.message.out _ c.in_ok-message.ensures c.in_ok-body.ensures
