-- Each message is answered before the next is read.
use Rattle.std.proofs.Common.{ap}
use Rattle.qrev_notices.specs.Conversation.{spoken}
use Rattle.qrev_notices.specs.Reading.{Heard, heard, IsRead}
use Rattle.qrev_notices.proofs.Standing.{idle_first, given_up}
use Rattle.qrev_adapter.proofs.Hearing.{next_failed, read_next, read_none}
use Rattle.qrev_adapter.proofs.serving.serve.Goals as goal

pub loop-init : goal.loop-init
loop-init g c = idle_first (heard g.S.Source.remaining g.W.Sink.contents c.args.line.now)

pub returns-in-Ok-None : goal.returns-in-Ok-None
returns-in-Ok-None g c =
    let start : Heard = heard g.S.Source.remaining g.W.Sink.contents c.args.line.now in
    let old : Heard = heard g.S.Source.remaining g.W.Sink.contents c.loop.line in
    let now : Heard = heard g.S.Source.remaining g.W.Sink.contents c.next.new.self in
    let silent = ap (spoken g.W.Sink.contents) c.in-Ok-None.ensures.silent in
    read_none _ start old now c.in-Ok-None.field-0 c.in-Ok-None.field-0-is c.loop.invariant c.in-Ok-None.ensures.read silent

pub returns-in-Err : goal.returns-in-Err
returns-in-Err g c =
    let start : Heard = heard g.S.Source.remaining g.W.Sink.contents c.args.line.now in
    let old : Heard = heard g.S.Source.remaining g.W.Sink.contents c.loop.line in
    let now : Heard = heard g.S.Source.remaining g.W.Sink.contents c.next.new.self in
    next_failed g.row.A.Denot c.in-Err.ended start old now c.loop.invariant c.in-Err.ensures.read (ap (spoken g.W.Sink.contents) c.in-Err.ensures.silent)

pub loop-preserved : goal.loop-preserved
loop-preserved g c =
    let start : Heard = heard g.S.Source.remaining g.W.Sink.contents c.args.line.now in
    let old : Heard = heard g.S.Source.remaining g.W.Sink.contents c.loop.line in
    let mid : Heard = heard g.S.Source.remaining g.W.Sink.contents c.next.new.self in
    let silent = ap (spoken g.W.Sink.contents) c.in-Ok-Some.ensures.silent in
    let body = c.as_slice.result.now in
    let read : IsRead start body mid = read_next _ start old mid c.in-Ok-Some.field-0 c.in-Ok-Some.body body c.in-Ok-Some.field-0-is c.as_slice.ensures.value c.loop.invariant c.in-Ok-Some.ensures.read silent in
    c.in-Ok.ensures start read

pub returns : goal.returns
returns g c = given_up (heard g.S.Source.remaining g.W.Sink.contents c.args.line.now) (heard g.S.Source.remaining g.W.Sink.contents c.loop.line) c.loop.invariant
