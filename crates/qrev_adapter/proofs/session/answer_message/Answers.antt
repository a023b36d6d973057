-- A message is a request that has its response, or none.
use Rattle.std.proofs.Common.{ap, refl}
use Rattle.std.specs.Prelude.{Ok, Option, codes}
use Rattle.qrev_notices.specs.Conversation.{asked_by, spoken}
use Rattle.json.specs.Value.{value_view}
use Rattle.qrev_adapter.specs.declared.requests.Ending.{Ending}
use Rattle.qrev_adapter.proofs.Hearing.{asks_this, no_document, no_request, hears_nothing, hears_one, hears_end, hears_exit, asks_to_stay}
use Rattle.qrev_adapter.proofs.Words.{is_word, restart_stays}
use Rattle.qrev_adapter.proofs.session.answer_message.Goals as goal

pub returns-in-None : goal.returns-in-None
returns-in-None g c = hears_nothing c.args.body.now (spoken g.W.Sink.contents c.args.port.now) (no_document c.args.body.now (c.in_ok-message.ensures.none (ap Ok c.in-None.is)))

pub returns-in-None-request_of : goal.returns-in-None-request_of
returns-in-None-request_of g c =
    hears_nothing c.args.body.now (spoken g.W.Sink.contents c.args.port.now) (no_request c.args.body.now (value_view c.in-Some.message) (rw c.in-Some.is at c.in_ok-message.ensures.some) c.in-None-request_of.ensures.none)

pub returns-in_err-ending : goal.returns-in_err-ending
returns-in_err-ending g c =
    let asks = asks_this c.args.body.now (value_view c.in-Some.message) c.in-Some-request_of.request (rw c.in-Some.is at c.in_ok-message.ensures.some) c.in-Some-request_of.ensures.some in
    hears_exit (Option Ending) c.from_residual-in_err-ending.result c.in_err-ending.field-0.0 c.args.body.now (asked_by c.in-Some-request_of.request) (spoken g.W.Sink.contents c.args.port.now) (spoken g.W.Sink.contents c.answer_one.new.port) c.from_residual-in_err-ending.ensures.1 asks c.in_err-ending.ensures.responds

pub returns-in-Some-ending : goal.returns-in-Some-ending
returns-in-Some-ending g c =
    let asks = asks_this c.args.body.now (value_view c.in-Some.message) c.in-Some-request_of.request (rw c.in-Some.is at c.in_ok-message.ensures.some) c.in-Some-request_of.ensures.some in
    let told = c.in_ok-ending.ensures in
    hears_end c.in_ok-ending.ending c.in-Some-ending.ending c.args.body.now (asked_by c.in-Some-request_of.request) (spoken g.W.Sink.contents c.args.port.now) (spoken g.W.Sink.contents c.answer_one.new.port)
    c.in-Some-ending.is asks told.responds told.leaves

pub returns : goal.returns
returns g c =
    let asks = asks_this c.args.body.now (value_view c.in-Some.message) c.in-Some-request_of.request (rw c.in-Some.is at c.in_ok-message.ensures.some) c.in-Some-request_of.ensures.some in
    let told = c.in_ok-ending.ensures in
    hears_one c.in_ok-ending.ending c.args.body.now (asked_by c.in-Some-request_of.request) (spoken g.W.Sink.contents c.args.port.now) (spoken g.W.Sink.contents c.answer_one.new.port) c.in_default.is asks told.responds told.leaves

pub returns-then-eq : goal.returns-then-eq
returns-then-eq g c =
    let request = c.in-Some-request_of.request in
    let asks = asks_this c.args.body.now (value_view c.in-Some.message) request (rw c.in-Some.is at c.in_ok-message.ensures.some) c.in-Some-request_of.ensures.some in
    let restart = is_word request.command.now c.command.result.now (codes "restart") c.eq.result c.command.ensures c.eq.ensures c.if-eq.true in
    (asks_to_stay c.args.body.now (asked_by request) asks (restart_stays request.command.now restart), refl)
