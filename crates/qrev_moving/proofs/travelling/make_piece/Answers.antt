-- What is told comes behind what breakpoints told.
use Rattle.std.specs.Prelude.{Option}
use Rattle.qrev_debuggee.specs.declared.motion.Why.{Why}
use Rattle.qrev_notices.specs.Conversation.{spoken}
use Rattle.qrev_notices.proofs.Replies.{tells_exit}
use Rattle.qrev_moving.proofs.travelling.make_piece.Goals as goal

pub returns-in_err-tell_arrived-clause-events : goal.returns-in_err-tell_arrived-clause-events
returns-in_err-tell_arrived-clause-events g c =
    let at = spoken g.W.Sink.contents in
    tells_exit (Unit {0}) _ (Option Why) c.in_ok-why.field-0 c.from_residual-in_err-tell_arrived.result c.in_err-tell_arrived.field-0.0 (at c.args.port.now) (at c.travel_and_log.new.port) (at c.tell_arrived.new.port)
    c.from_residual-in_err-tell_arrived.ensures.1 c.in_ok-why.ensures c.in_err-tell_arrived.ensures.events

pub returns-in_err-tell_underway-clause-events : goal.returns-in_err-tell_underway-clause-events
returns-in_err-tell_underway-clause-events g c =
    let at = spoken g.W.Sink.contents in
    tells_exit (Unit {0}) _ (Option Why) c.in_ok-why.field-0 c.from_residual-in_err-tell_underway.result c.in_err-tell_underway.field-0.0 (at c.args.port.now) (at c.travel_and_log.new.port) (at c.tell_underway.new.port)
    c.from_residual-in_err-tell_underway.ensures.1 c.in_ok-why.ensures c.in_err-tell_underway.ensures
