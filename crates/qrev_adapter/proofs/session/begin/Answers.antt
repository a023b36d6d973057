-- The run is told of after the response.
use Rattle.qrev_notices.specs.Conversation.{asked_by, spoken}
use Rattle.qrev_notices.proofs.Replies.{responded_then}
use Rattle.qrev_adapter.proofs.session.begin.Goals as goal

pub returns-then-not-stage-clause-responds : goal.returns-then-not-stage-clause-responds
returns-then-not-stage-clause-responds g c =
    let at = spoken g.W.Sink.contents in
    responded_then (tt {0}) c.run_to_end.result (asked_by c.args.request) (at c.args.port.now) (at c.accept.new.self) (at c.run_to_end.new.port) c.in_ok-accept.ensures c.run_to_end.ensures.events

pub returns-then-stage-clause-responds : goal.returns-then-stage-clause-responds
returns-then-stage-clause-responds g c =
    let at = spoken g.W.Sink.contents in
    responded_then (tt {0}) c.tell_stopped.result (asked_by c.args.request) (at c.args.port.now) (at c.accept.new.self) (at c.tell_stopped.new.port) c.in_ok-accept.ensures c.tell_stopped.ensures.events

pub returns-clause-responds : goal.returns-clause-responds
returns-clause-responds g c =
    let at = spoken g.W.Sink.contents in
    responded_then (tt {0}) c.go_and_tell.result (asked_by c.args.request) (at c.args.port.now) (at c.accept.new.self) (at c.go_and_tell.new.port) c.in_ok-accept.ensures c.go_and_tell.ensures.events
