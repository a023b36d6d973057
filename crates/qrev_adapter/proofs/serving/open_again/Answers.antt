-- The message of a restart is a request, which is responded to.
use Rattle.qrev_notices.specs.Conversation.{asked_by}
use Rattle.qrev_notices.specs.Reading.{Heard, heard}
use Rattle.json.specs.Value.{value_view}
use Rattle.qrev_notices.specs.declared.line.Ended.TheVariants.{OutOfMemory}
use Rattle.qrev_notices.proofs.Standing.{read_cut, read_broken, read_pending}
use Rattle.qrev_adapter.proofs.Hearing.{asks_this, closed_exit}
use Rattle.qrev_adapter.proofs.serving.open_again.Goals as goal

pub returns-in_err-message : goal.returns-in_err-message
returns-in_err-message g c = λ start r stay.
    let now : Heard = heard g.S.Source.remaining g.W.Sink.contents c.args.line.now in closed_exit c.from_residual.result OutOfMemory start now c.from_residual.ensures.1 (read_cut start now c.args.body.now r)

pub returns-in-None : goal.returns-in-None
returns-in-None g c = λ start r stay. read_broken start (heard g.S.Source.remaining g.W.Sink.contents c.args.line.now) c.args.body.now r

pub returns-in-None-request_of : goal.returns-in-None-request_of
returns-in-None-request_of g c = λ start r stay. read_broken start (heard g.S.Source.remaining g.W.Sink.contents c.args.line.now) c.args.body.now r

pub returns-in_err-closed : goal.returns-in_err-closed
returns-in_err-closed g c = λ start r stay.
    let now : Heard = heard g.S.Source.remaining g.W.Sink.contents c.load_again.new.line in
    let asks = asks_this c.args.body.now (value_view c.in-Some.message) c.in-Some-request_of.request (rw c.in-Some.is at c.in_ok-message.ensures.some) c.in-Some-request_of.ensures.some in
    closed_exit c.from_residual-in_err-closed.result c.in_err-closed.field-0.0 start now c.from_residual-in_err-closed.ensures.1
    (c.in_err-closed.ensures start r.1 (read_pending start (heard g.S.Source.remaining g.W.Sink.contents c.args.line.now) c.args.body.now (asked_by c.in-Some-request_of.request) r asks) (stay (asked_by c.in-Some-request_of.request) asks))

pub returns : goal.returns
returns g c = λ start r stay.
    let asks = asks_this c.args.body.now (value_view c.in-Some.message) c.in-Some-request_of.request (rw c.in-Some.is at c.in_ok-message.ensures.some) c.in-Some-request_of.ensures.some in
    c.tell_refused.ensures start
    (c.in_ok-closed.ensures start r.1 (read_pending start (heard g.S.Source.remaining g.W.Sink.contents c.args.line.now) c.args.body.now (asked_by c.in-Some-request_of.request) r asks) (stay (asked_by c.in-Some-request_of.request) asks))
