-- A message is a request, which is responded to, or none.
use Rattle.std.proofs.Common.{ap}
use Rattle.std.specs.Prelude.{Ok, codes}
use Rattle.qrev_notices.specs.Conversation.{asked_by}
use Rattle.qrev_notices.specs.Reading.{Heard, heard}
use Rattle.json.specs.Value.{value_view}
use Rattle.qrev_notices.specs.declared.line.Ended.TheVariants.{OutOfMemory}
use Rattle.qrev_notices.proofs.Standing.{read_cut, read_idle, read_pending}
use Rattle.qrev_adapter.proofs.Hearing.{asks_this, no_document, no_request, stands_exit}
use Rattle.qrev_adapter.proofs.Words.{is_word, launch_stays}
use Rattle.qrev_adapter.proofs.serving.answer_outside.Goals as goal

pub returns-in_err-message : goal.returns-in_err-message
returns-in_err-message g c = λ start r.
    let now : Heard = heard g.S.Source.remaining g.W.Sink.contents c.args.line.now in stands_exit c.from_residual.result OutOfMemory start now c.from_residual.ensures.1 (read_cut start now c.args.body.now r)

pub returns-in-None : goal.returns-in-None
returns-in-None g c = λ start r. read_idle start (heard g.S.Source.remaining g.W.Sink.contents c.args.line.now) c.args.body.now r (no_document c.args.body.now (c.in_ok-message.ensures.none (ap Ok c.in-None.is)))

pub returns-in-None-request_of : goal.returns-in-None-request_of
returns-in-None-request_of g c = λ start r.
    read_idle start (heard g.S.Source.remaining g.W.Sink.contents c.args.line.now) c.args.body.now r
    (no_request c.args.body.now (value_view c.in-Some.message) (rw c.in-Some.is at c.in_ok-message.ensures.some) c.in-None-request_of.ensures.none)

pub returns-then-eq : goal.returns-then-eq
returns-then-eq g c = λ start r.
    let request = c.in-Some-request_of.request in
    let asks = asks_this c.args.body.now (value_view c.in-Some.message) request (rw c.in-Some.is at c.in_ok-message.ensures.some) c.in-Some-request_of.ensures.some in
    let launch = is_word request.command.now c.command.result.now (codes "launch") c.eq.result c.command.ensures c.eq.ensures c.if-eq.true in
    c.launch_asked.ensures (launch_stays request.command.now launch) start r.1 (read_pending start (heard g.S.Source.remaining g.W.Sink.contents c.args.line.now) c.args.body.now (asked_by request) r asks)

pub returns : goal.returns
returns g c = λ start r.
    let asks = asks_this c.args.body.now (value_view c.in-Some.message) c.in-Some-request_of.request (rw c.in-Some.is at c.in_ok-message.ensures.some) c.in-Some-request_of.ensures.some in
    c.answer_idle.ensures start r.1 (read_pending start (heard g.S.Source.remaining g.W.Sink.contents c.args.line.now) c.args.body.now (asked_by c.in-Some-request_of.request) r asks)
