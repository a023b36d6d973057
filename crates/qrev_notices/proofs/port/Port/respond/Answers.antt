-- The response was sent: its text begins as it does for its request.
use Rattle.std.proofs.Common.{ap, ◌∙◌, ◌≡◌, ◌++◌, ℕ, List, subst, sym}
use Rattle.json.specs.Print.{print}
use Rattle.qrev_protocol.specs.Open.{IsJson}
use Rattle.qrev_protocol.specs.Outgoing.{response_head}
use Rattle.qrev_protocol.specs.declared.outgoing.Outcome.TheVariants.{Done}
use Rattle.qrev_notices.specs.Conversation.{asked_by, spoken, message_text}
use Rattle.qrev_notices.proofs.Replies.{responds, responds_exit, silent, on_ok}
use Rattle.qrev_notices.proofs.port.Port.respond.Goals as goal

pub returns-in_err-number : goal.returns-in_err-number
returns-in_err-number g c =
    let old = spoken g.W.Sink.contents c.args.self.now in
    let trouble = c.in_err-number.field-0.0 in
    responds_exit (Unit {0}) c.from_residual-in_err-number.result trouble (asked_by c.args.request) old old c.from_residual-in_err-number.ensures.1 (silent (Unit {0}) trouble (asked_by c.args.request) old)

pub returns-in_err-text : goal.returns-in_err-text
returns-in_err-text g c =
    let old = spoken g.W.Sink.contents c.args.self.now in
    let trouble = c.in_err-text.field-0.0 in
    responds_exit (Unit {0}) c.from_residual-in_err-text.result trouble (asked_by c.args.request) old old c.from_residual-in_err-text.ensures.1 (silent (Unit {0}) trouble (asked_by c.args.request) old)

pub returns : goal.returns
returns g c =
    let request = c.args.request in
    let whole = c.as_slice-2.ensures.value in
    let text = c.in_ok-text.ensures.text in
    let start : c.as_slice.result.now ≡ print (response_head request.seq request.command.now Done) = c.as_slice.ensures.value ∙ c.in_ok-start.ensures in
    responds c.write.result (asked_by request) c.as_slice-2.result.now (spoken g.W.Sink.contents c.args.self.now) (spoken g.W.Sink.contents c.write.new.self)
    (Done, (text.0, whole ∙ text.2 ∙ ap (λ (v : List ℕ). v ++ text.0) start))
    (text.1.0, whole ∙ text.1.1 ∙ ap (λ (n : ℕ). message_text n text.1.0) c.in_ok-number.ensures.number.0)
    (on_ok c.write.result _ (subst IsJson (sym whole) c.in_ok-text.ensures.json)) c.write.ensures
