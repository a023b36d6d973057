-- The messages can't be counted on; and one that was sent is JSON.
use Rattle.std.proofs.Common.{ℕ, ◌≡◌, ◌∙◌, ap, subst}
use Rattle.qrev_protocol.specs.Open.{IsJson}
use Rattle.qrev_notices.specs.Conversation.{spoken, message_text}
use Rattle.qrev_notices.proofs.Replies.{sends_nothing, sends_exit, on_ok}
use Rattle.qrev_notices.proofs.port.Port.send.Goals as goal

pub returns-in_err-number-clause-sent : goal.returns-in_err-number-clause-sent
returns-in_err-number-clause-sent g c =
    let old = spoken g.W.Sink.contents c.args.self.now in
    let trouble = c.in_err-number.field-0.0 in
    sends_exit (Unit {0}) c.from_residual.result trouble _ old old c.from_residual.ensures.1 (sends_nothing (Unit {0}) trouble _ old)

pub returns-clause-json : goal.returns-clause-json
returns-clause-json g c =
    on_ok c.write.result _
    (subst IsJson (c.in_ok-text.ensures.text ∙ ap (λ (n : ℕ). message_text n c.args.message.out.tokens) c.in_ok-number.ensures.number.0) c.in_ok-text.ensures.json)
