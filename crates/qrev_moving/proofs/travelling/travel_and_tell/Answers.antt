-- Each piece tells its own, behind those before it.
use Rattle.std.specs.Prelude.{Option, Bool}
use Rattle.qrev_notices.specs.Conversation.{spoken}
use Rattle.qrev_notices.proofs.Replies.{quiet, tells_exit}
use Rattle.qrev_moving.specs.declared.underway.Course.{Course}
use Rattle.qrev_moving.specs.declared.underway.Underway.{Underway}
use Rattle.qrev_moving.proofs.travelling.travel_and_tell.Goals as goal

pub loop-init : goal.loop-init
loop-init g c = quiet (tt {0}) (spoken g.W.Sink.contents c.args.port.now)

pub returns-in_err-make_piece-clause-events : goal.returns-in_err-make_piece-clause-events
returns-in_err-make_piece-clause-events g c =
    let at = spoken g.W.Sink.contents in
    tells_exit (Option (Underway × Bool)) Course (Unit {0}) tt c.from_residual.result c.in_err-make_piece.field-0.0 (at c.args.port.now) (at c.loop.port) (at c.make_piece.new.port) c.from_residual.ensures.1 c.loop.invariant c.in_err-make_piece.ensures.events
