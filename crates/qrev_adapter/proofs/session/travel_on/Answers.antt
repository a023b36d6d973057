-- What the travel told, and how it went.
use Rattle.std.specs.Prelude.{Ok}
use Rattle.qrev_notices.specs.Conversation.{spoken}
use Rattle.qrev_notices.proofs.Replies.{quiet, told_then, tells_exit}
use Rattle.qrev_moving.specs.declared.underway.Course.{Course}
use Rattle.qrev_adapter.proofs.session.travel_on.Goals as goal

pub returns-in_err-stage-clause-events : goal.returns-in_err-stage-clause-events
returns-in_err-stage-clause-events g c =
    let at = spoken g.W.Sink.contents in
    tells_exit Course (Unit {0}) (Unit {0}) tt c.from_residual.result c.in_err-stage.field-0.0 (at c.args.port.now) (at c.args.port.now) (at c.travel_and_tell.new.port) c.from_residual.ensures.1
    (quiet (tt {0}) (at c.args.port.now)) c.in_err-stage.ensures.events

pub returns-clause-events : goal.returns-clause-events
returns-clause-events g c =
    let now = spoken g.W.Sink.contents c.travel_and_tell.new.port in
    told_then c.in_ok-stage.field-0 (Ok (tt {0})) (spoken g.W.Sink.contents c.args.port.now) now now c.in_ok-stage.ensures.events (quiet (tt {0}) now)
