-- What is told is told by events.
use Rattle.std.specs.Prelude.{Option}
use Rattle.qrev_notices.specs.Conversation.{spoken}
use Rattle.qrev_notices.proofs.Replies.{quiet, told_then, tells_exit}
use Rattle.qrev_debuggee.specs.declared.motion.Why.{Why}
use Rattle.qrev_moving.proofs.travelling.travel_and_log.Goals as goal

pub returns-in_err-tell_log-in-Err : goal.returns-in_err-tell_log-in-Err
returns-in_err-tell_log-in-Err g c =
    let old = spoken g.W.Sink.contents c.args.port.now in
    tells_exit (Unit {0}) (Option Why) (Unit {0}) tt c.from_residual.result c.in_err-tell_log-in-Err.field-0.0 old old (spoken g.W.Sink.contents c.tell_log.new.port) c.from_residual.ensures.1 (quiet (tt {0}) old) c.in_err-tell_log-in-Err.ensures

pub returns-in_err-tell_log : goal.returns-in_err-tell_log
returns-in_err-tell_log g c =
    let old = spoken g.W.Sink.contents c.args.port.now in
    tells_exit (Unit {0}) (Option Why) (Unit {0}) tt c.from_residual-in_err-tell_log.result c.in_err-tell_log.field-0.0 old old (spoken g.W.Sink.contents c.tell_log-2.new.port) c.from_residual-in_err-tell_log.ensures.1 (quiet (tt {0}) old) c.in_err-tell_log.ensures
