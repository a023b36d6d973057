-- Nothing is told on the way; the run is told of when it goes no further.
use Rattle.std.specs.Prelude.{Ok}
use Rattle.qrev_notices.specs.Conversation.{spoken}
use Rattle.qrev_notices.proofs.Replies.{quiet, told_then, tells_exit}
use Rattle.qrev_moving.specs.declared.underway.Course.{Course}
use Rattle.qrev_moving.specs.declared.underway.Course.TheVariants.{Stands, RunsOut}
use Rattle.qrev_moving.proofs.travelling.run_out.Goals as goal

pub loop-init : goal.loop-init
loop-init g c = quiet (tt {0}) (spoken g.W.Sink.contents c.args.port.now)

pub returns-in_err-tell_failed-in-Err-clause-events : goal.returns-in_err-tell_failed-in-Err-clause-events
returns-in_err-tell_failed-in-Err-clause-events g c =
    let at = spoken g.W.Sink.contents in
    tells_exit (Unit {0}) Course (Unit {0}) tt c.from_residual.result c.in_err-tell_failed-in-Err.field-0.0 (at c.args.port.now) (at c.loop.port) (at c.tell_failed.new.port) c.from_residual.ensures.1 c.loop.invariant
    c.in_err-tell_failed-in-Err.ensures.events

pub returns-in-Err-clause-events : goal.returns-in-Err-clause-events
returns-in-Err-clause-events g c =
    let at = spoken g.W.Sink.contents in
    told_then (tt {0}) (Ok Stands) (at c.args.port.now) (at c.loop.port) (at c.tell_failed.new.port) c.loop.invariant
    (told_then (tt {0}) (Ok Stands) (at c.loop.port) (at c.tell_failed.new.port) (at c.tell_failed.new.port) c.in_ok-tell_failed-in-Err.ensures.events (quiet Stands (at c.tell_failed.new.port)))

pub returns-in-Waits-clause-events : goal.returns-in-Waits-clause-events
returns-in-Waits-clause-events g c =
    let at = spoken g.W.Sink.contents in
    told_then (tt {0}) (Ok RunsOut) (at c.args.port.now) (at c.loop.port) (at c.loop.port) c.loop.invariant (quiet RunsOut (at c.loop.port))

pub returns-in_err-tell_end-in-Stands-clause-events : goal.returns-in_err-tell_end-in-Stands-clause-events
returns-in_err-tell_end-in-Stands-clause-events g c =
    let at = spoken g.W.Sink.contents in
    tells_exit (Unit {0}) Course (Unit {0}) tt c.from_residual-in_err-tell_end-in-Stands.result c.in_err-tell_end-in-Stands.field-0.0 (at c.args.port.now) (at c.loop.port) (at c.tell_end.new.port)
    c.from_residual-in_err-tell_end-in-Stands.ensures.1 c.loop.invariant c.in_err-tell_end-in-Stands.ensures.events

pub returns-in-Stands-clause-events : goal.returns-in-Stands-clause-events
returns-in-Stands-clause-events g c =
    let at = spoken g.W.Sink.contents in
    told_then (tt {0}) (Ok Stands) (at c.args.port.now) (at c.loop.port) (at c.tell_end.new.port) c.loop.invariant
    (told_then (tt {0}) (Ok Stands) (at c.loop.port) (at c.tell_end.new.port) (at c.tell_end.new.port) c.in_ok-tell_end-in-Stands.ensures.events (quiet Stands (at c.tell_end.new.port)))

pub returns-clause-events : goal.returns-clause-events
returns-clause-events g c =
    let at = spoken g.W.Sink.contents in
    told_then (tt {0}) (Ok RunsOut) (at c.args.port.now) (at c.loop.port) (at c.loop.port) c.loop.invariant (quiet RunsOut (at c.loop.port))
