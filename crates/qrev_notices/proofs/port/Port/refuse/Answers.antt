-- The response was sent.
use Rattle.std.proofs.Common.{refl, suc, sym, [], ◌∙◌, ◌≡◌}
use Rattle.std.proofs.lemmas.List.{append-nil}
use Rattle.qrev_protocol.specs.Outgoing.{response_head}
use Rattle.qrev_protocol.specs.declared.outgoing.Outcome.TheVariants.{Failed}
use Rattle.qrev_notices.specs.Conversation.{asked_by, spoken, message_text}
use Rattle.qrev_notices.proofs.Replies.{begins, responds}
use Rattle.qrev_notices.proofs.port.Port.refuse.Goals as goal

pub returns : goal.returns
returns g c =
    let old = spoken g.W.Sink.contents c.args.self.now in
    let tokens = c.in_ok-message.field-0.out.tokens in
    let head = response_head c.args.request.seq c.args.request.command.now (Failed c.args.why) in
    let is : tokens ≡ head = c.in_ok-message.ensures in
    responds c.send.result (asked_by c.args.request) (message_text (suc old.sent) tokens) old (spoken g.W.Sink.contents c.send.new.self)
    ((Failed c.args.why), begins (suc old.sent) head [] tokens (is ∙ sym (append-nil head))) (tokens, refl) c.send.ensures.json c.send.ensures.sent
