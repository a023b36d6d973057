-- What is sent belongs to the last request.
use Rattle.std.proofs.Common.{refl}
use Rattle.qrev_notices.specs.Conversation.{spoken}
use Rattle.qrev_notices.specs.Reading.{Heard, heard, HasStayed, ended_by}
use Rattle.qrev_adapter.proofs.Hearing.{stayed_told, tells_failed, closed_exit}
use Rattle.qrev_adapter.proofs.serving.tell_refused.Goals as goal

pub returns-in_err-tell_plain-in-Terminated : goal.returns-in_err-tell_plain-in-Terminated
returns-in_err-tell_plain-in-Terminated g c = λ start h.
    let old : Heard = heard g.S.Source.remaining g.W.Sink.contents c.args.line.now in
    let now : Heard = record { input = old.input; output = spoken g.W.Sink.contents c.tell_plain.new.port } in
    let trouble = c.in_err-tell_plain-in-Terminated.field-0.0 in
    let stayed : HasStayed start old = rw c.in-Terminated.is at h in
    closed_exit c.from_residual.result (ended_by trouble) start now c.from_residual.ensures.1 (tells_failed trouble start old now stayed.0 refl c.in_err-tell_plain-in-Terminated.ensures.events stayed.1)

pub returns-in-Terminated : goal.returns-in-Terminated
returns-in-Terminated g c = λ start h.
    let old : Heard = heard g.S.Source.remaining g.W.Sink.contents c.args.line.now in
    let now : Heard = record { input = old.input; output = spoken g.W.Sink.contents c.tell_plain.new.port } in stayed_told (tt {0}) start old now refl c.in_ok-tell_plain-in-Terminated.ensures.events (rw c.in-Terminated.is at h)
