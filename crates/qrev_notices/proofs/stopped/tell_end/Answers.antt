-- The output was told, then how the run ended, and then that the session can be ended.
use Rattle.std.specs.Prelude.{Ok}
use Rattle.qrev_notices.specs.Conversation.{spoken}
use Rattle.qrev_notices.proofs.Replies.{told_then, tells_exit}
use Rattle.qrev_notices.proofs.stopped.tell_end.Goals as goal

pub returns-in_err-tell-clause-events : goal.returns-in_err-tell-clause-events
returns-in_err-tell-clause-events g c =
    let at = spoken g.W.Sink.contents in
    tells_exit (Unit {0}) (Unit {0}) (Unit {0}) tt c.from_residual-in_err-tell.result c.in_err-tell.field-0.0 (at c.args.port.now) (at c.tell_output.new.port) (at c.tell.new.self) c.from_residual-in_err-tell.ensures.1
    c.in_ok-tell_output.ensures c.in_err-tell.ensures.events

pub returns-clause-events : goal.returns-clause-events
returns-clause-events g c =
    let at = spoken g.W.Sink.contents in
    told_then (tt {0}) c.tell_plain.result (at c.args.port.now) (at c.tell.new.self) (at c.tell_plain.new.port)
    (told_then (tt {0}) (Ok (tt {0})) (at c.args.port.now) (at c.tell_output.new.port) (at c.tell.new.self) c.in_ok-tell_output.ensures c.in_ok-tell.ensures.events)
    c.tell_plain.ensures.events

pub returns-clause-ends : goal.returns-clause-ends
returns-clause-ends g c = c.tell_plain.ensures.last
