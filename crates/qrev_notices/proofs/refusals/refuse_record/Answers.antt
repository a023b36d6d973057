-- The request is refused, and no session is opened.
use Rattle.std.proofs.Common.{refl}
use Rattle.qrev_notices.specs.Conversation.{asked_by, spoken}
use Rattle.qrev_notices.specs.Reading.{Heard, heard}
use Rattle.qrev_notices.proofs.Standing.{serves_refused}
use Rattle.qrev_notices.proofs.refusals.refuse_record.Goals as goal

pub returns : goal.returns
returns g c =
    let old : Heard = heard g.S.Source.remaining g.W.Sink.contents c.args.line.now in
    let now : Heard = record { input = old.input; output = spoken g.W.Sink.contents c.refuse_with.new.port } in
    serves_refused c.closed_by.result c.refuse_with.result (asked_by c.args.request) old now refl c.refuse_with.ensures c.closed_by.ensures
