-- Members are added to the event of this name.
use Rattle.std.specs.Prelude.{codes}
use Rattle.qrev_notices.proofs.Replies.{named_first, named_grows}
use Rattle.qrev_notices.proofs.stopped.stopped_body.Goals as goal

pub returns : goal.returns
returns g c =
    let event = c.in_ok-event.field-0.out in
    let object = c.in_ok-object.field-0.out in
    let text = c.in_ok-text.field-0.out in
    let one = named_first (codes "stopped") event.tokens c.in_ok-event.ensures in
    let two = named_grows (codes "stopped") event object _ c.in_ok-object.ensures one in
    let three = named_grows (codes "stopped") object text _ c.in_ok-text.ensures two in named_grows (codes "stopped") text c.in_ok-body.body.out _ c.in_ok-body.ensures three
