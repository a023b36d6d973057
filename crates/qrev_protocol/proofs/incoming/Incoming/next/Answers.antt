-- What was read is the message that is at the start.
use Rattle.qrev_protocol.proofs.Messages.{gives}
use Rattle.qrev_protocol.proofs.Framed.{framed_is_message}
use Rattle.qrev_protocol.proofs.incoming.Incoming.next.Goals as goal

pub returns-clause-only : goal.returns-clause-only
returns-clause-only g c = λ message body more m e. gives c.read_message.result _ _ c.read_message.ensures.message message body more m e

pub returns-clause-framed : goal.returns-clause-framed
returns-clause-framed g c = λ body more small e. gives c.read_message.result _ _ c.read_message.ensures.message _ body more (framed_is_message body small) e
