-- The request wasn't responded to, or was and is followed by others.
use Rattle.std.proofs.Common.{refl}
use Rattle.qrev_notices.specs.Conversation.{asked_by, spoken}
use Rattle.qrev_notices.specs.Reading.{Heard, heard}
use Rattle.qrev_adapter.proofs.Hearing.{serves_failed, serves_then}
use Rattle.qrev_adapter.proofs.opening.open_session.Goals as goal

pub returns-in_err-tell_open : goal.returns-in_err-tell_open
returns-in_err-tell_open g c =
    let old : Heard = heard g.S.Source.remaining g.W.Sink.contents c.args.line.now in
    let now : Heard = record { input = old.input; output = spoken g.W.Sink.contents c.tell_open.new.port } in
    serves_failed c.from_residual.result c.in_err-tell_open.field-0.0 (asked_by c.args.request) old now c.from_residual.ensures.1 refl c.in_err-tell_open.ensures

pub returns : goal.returns
returns g c =
    let old : Heard = heard g.S.Source.remaining g.W.Sink.contents c.args.line.now in
    let mid : Heard = record { input = old.input; output = spoken g.W.Sink.contents c.tell_open.new.port } in
    let now : Heard = heard g.S.Source.remaining g.W.Sink.contents c.serve_session.new.line in
    serves_then c.serve_session.result (tt {0}) (asked_by c.args.request) old mid now refl c.in_ok-tell_open.ensures c.serve_session.ensures
