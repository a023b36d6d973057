-- The output was told, and then that the run was paused.
use Rattle.std.specs.Prelude.{codes}
use Rattle.qrev_notices.specs.Conversation.{spoken}
use Rattle.qrev_notices.proofs.Replies.{named_is, told_then}
use Rattle.qrev_notices.proofs.stopped.tell_paused.Goals as goal

pub tell-requires : goal.tell-requires
tell-requires g c = named_is (codes "stopped") _ c.in_ok-paused_message.ensures

pub returns-clause-events : goal.returns-clause-events
returns-clause-events g c =
    let at = spoken g.W.Sink.contents in
    told_then (tt {0}) c.tell.result (at c.args.port.now) (at c.tell_output.new.port) (at c.tell.new.self) c.in_ok-tell_output.ensures c.tell.ensures.events

pub returns-clause-stands : goal.returns-clause-stands
returns-clause-stands g c = c.tell.ensures.last (codes "stopped") c.in_ok-paused_message.ensures
