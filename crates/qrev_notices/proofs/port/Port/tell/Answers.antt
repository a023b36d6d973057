-- An event was sent.
use Rattle.std.proofs.Common.{refl, suc}
use Rattle.qrev_notices.specs.Conversation.{spoken, message_text}
use Rattle.qrev_notices.proofs.Replies.{begins, tells, told_last}
use Rattle.qrev_notices.proofs.port.Port.tell.Goals as goal

pub returns-clause-events : goal.returns-clause-events
returns-clause-events g c =
    let old = spoken g.W.Sink.contents c.args.self.now in
    let event = c.args.event.out.tokens in
    let is = c.requires in
    tells c.send.result (message_text (suc old.sent) event) old (spoken g.W.Sink.contents c.send.new.self) (is.0, begins (suc old.sent) _ is.1 event is.2) (event, refl) c.send.ensures.json c.send.ensures.sent

pub returns-clause-last : goal.returns-clause-last
returns-clause-last g c = λ name is.
    let old = spoken g.W.Sink.contents c.args.self.now in
    told_last c.send.result name (suc old.sent) c.args.event.out.tokens old (spoken g.W.Sink.contents c.send.new.self) is c.send.ensures.sent
