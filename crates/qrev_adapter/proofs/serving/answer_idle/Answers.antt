-- The request has its response.
use Rattle.qrev_notices.specs.Conversation.{asked_by, spoken}
use Rattle.qrev_notices.specs.Reading.{Heard, heard}
use Rattle.std.proofs.Common.{refl}
use Rattle.std.specs.Prelude.{codes}
use Rattle.qrev_notices.specs.Reading.{ended_by}
use Rattle.qrev_notices.proofs.Standing.{answered_idle, responded}
use Rattle.qrev_adapter.proofs.Hearing.{stands_exit}
use Rattle.qrev_adapter.proofs.Words.{is_word, is_not_word}
use Rattle.qrev_adapter.proofs.serving.answer_idle.Goals as goal

pub returns-in_err-respond_idle : goal.returns-in_err-respond_idle
returns-in_err-respond_idle g c = λ start before h.
    let old : Heard = heard g.S.Source.remaining g.W.Sink.contents c.args.line.now in
    let now : Heard = record { input = old.input; output = spoken g.W.Sink.contents c.respond_idle.new.port } in
    stands_exit c.from_residual.result (ended_by c.in_err-respond_idle.field-0.0) start now c.from_residual.ensures.1 (responded c.in_err-respond_idle.field-0.0 (asked_by c.args.request) old now start before refl c.in_err-respond_idle.ensures h)

pub returns-then-leaves : goal.returns-then-leaves
returns-then-leaves g c = λ start before h.
    let a = asked_by c.args.request in
    let leaves = is_word a.command c.command-3.result.now (codes "disconnect") c.eq-leaves.result c.command-3.ensures c.eq-leaves.ensures c.if-leaves.true in (a, (before, h.0, c.in_ok-respond_idle.ensures start.output before h.1, h.2), leaves)

pub returns : goal.returns
returns g c = λ start before h.
    let a = asked_by c.args.request in
    let old : Heard = heard g.S.Source.remaining g.W.Sink.contents c.args.line.now in
    let now : Heard = record { input = old.input; output = spoken g.W.Sink.contents c.respond_idle.new.port } in
    let stays = is_not_word a.command c.command-3.result.now (codes "disconnect") c.eq-leaves.result c.command-3.ensures c.eq-leaves.ensures c.if-leaves.false in answered_idle start now (a, (before, h.0, c.in_ok-respond_idle.ensures start.output before h.1, h.2), stays)
