-- The event has no body.
use Rattle.qrev_notices.proofs.Replies.{event_first, named_first}
use Rattle.qrev_notices.proofs.stopped.tell_plain.Goals as goal

pub tell-requires : goal.tell-requires
tell-requires g c = event_first c.args.name.now _ c.in_ok-event.ensures

pub returns-clause-last : goal.returns-clause-last
returns-clause-last g c = c.tell.ensures.last c.args.name.now (named_first c.args.name.now _ c.in_ok-event.ensures)
