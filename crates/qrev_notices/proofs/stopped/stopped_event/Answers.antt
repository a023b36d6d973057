-- The end of its body is added.
use Rattle.std.specs.Prelude.{codes}
use Rattle.qrev_notices.proofs.Replies.{named_grows}
use Rattle.qrev_notices.proofs.stopped.stopped_event.Goals as goal

pub returns : goal.returns
returns g c = named_grows (codes "stopped") c.in_ok-body-3.body.out c.in_ok-message.message.out _ c.in_ok-message.ensures c.in_ok-body-3.ensures
