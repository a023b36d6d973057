-- The end of its body is added, or its line and the end.
use Rattle.qrev_notices.proofs.Replies.{event_grows}
use Rattle.qrev_notices.proofs.refusals.refusal_event.Goals as goal

pub returns-in_default : goal.returns-in_default
returns-in_default g c = event_grows c.in_ok-body.body.out c.in_ok-message.message.out _ c.in_ok-message.ensures c.in_ok-body.ensures

pub returns : goal.returns
returns g c =
    let one = event_grows c.in_ok-body.body.out c.in_ok-put_source.field-0.out _ c.in_ok-put_source.ensures.1 c.in_ok-body.ensures in
    let two = event_grows c.in_ok-put_source.field-0.out c.in_ok-number.field-0.out _ c.in_ok-number.ensures one in
    event_grows c.in_ok-number.field-0.out c.in_ok-message-2.message.out _ c.in_ok-message-2.ensures two
