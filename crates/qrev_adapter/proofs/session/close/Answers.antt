-- What is sent belongs to the last request.
use Rattle.std.proofs.Common.{refl}
use Rattle.qrev_notices.specs.Conversation.{spoken}
use Rattle.qrev_notices.specs.Reading.{Heard, heard, HasStayed, HasLeft}
use Rattle.qrev_notices.specs.Reading.{ended_by}
use Rattle.qrev_notices.specs.declared.line.Ended.TheVariants.{OutOfMemory}
use Rattle.qrev_adapter.proofs.Hearing.{stayed_told, left_told, tells_failed, closed_exit, closed_cut}
use Rattle.qrev_adapter.proofs.session.close.Goals as goal

pub returns-in_err-write_record-in-Terminated : goal.returns-in_err-write_record-in-Terminated
returns-in_err-write_record-in-Terminated g c = λ start h.
    let old : Heard = heard g.S.Source.remaining g.W.Sink.contents c.args.line.now in
    let now : Heard = record { input = old.input; output = spoken g.W.Sink.contents c.write_record.new.port } in
    let trouble = c.in_err-write_record-in-Terminated.field-0.0 in
    let stayed : HasStayed start old = rw c.in-Terminated.is at h in
    closed_exit c.from_residual.result (ended_by trouble) start now c.from_residual.ensures.1 (tells_failed trouble start old now stayed.0 refl c.in_err-write_record-in-Terminated.ensures stayed.1)

pub returns-in_err-tell_plain-in-Terminated : goal.returns-in_err-tell_plain-in-Terminated
returns-in_err-tell_plain-in-Terminated g c = λ start h.
    let old : Heard = heard g.S.Source.remaining g.W.Sink.contents c.args.line.now in
    let mid : Heard = record { input = old.input; output = spoken g.W.Sink.contents c.write_record.new.port } in
    let now : Heard = record { input = old.input; output = spoken g.W.Sink.contents c.tell_plain.new.port } in
    let trouble = c.in_err-tell_plain-in-Terminated.field-0.0 in
    let stayed : HasStayed start mid = stayed_told (tt {0}) start old mid refl c.in_ok-write_record-in-Terminated.ensures (rw c.in-Terminated.is at h) in
    closed_exit c.from_residual-in_err-tell_plain-in-Terminated.result (ended_by trouble) start now c.from_residual-in_err-tell_plain-in-Terminated.ensures.1
    (tells_failed trouble start mid now stayed.0 refl c.in_err-tell_plain-in-Terminated.ensures.events stayed.1)

pub returns-in-Terminated : goal.returns-in-Terminated
returns-in-Terminated g c = λ start h.
    let old : Heard = heard g.S.Source.remaining g.W.Sink.contents c.args.line.now in
    let mid : Heard = record { input = old.input; output = spoken g.W.Sink.contents c.write_record.new.port } in
    let now : Heard = record { input = old.input; output = spoken g.W.Sink.contents c.tell_plain.new.port } in
    stayed_told (tt {0}) start mid now refl c.in_ok-tell_plain-in-Terminated.ensures.events (stayed_told (tt {0}) start old mid refl c.in_ok-write_record-in-Terminated.ensures (rw c.in-Terminated.is at h))

pub returns-in_err-write_record-in-Left : goal.returns-in_err-write_record-in-Left
returns-in_err-write_record-in-Left g c = λ start h.
    let old : Heard = heard g.S.Source.remaining g.W.Sink.contents c.args.line.now in
    let now : Heard = record { input = old.input; output = spoken g.W.Sink.contents c.write_record-in-Left.new.port } in
    let trouble = c.in_err-write_record-in-Left.field-0.0 in
    let left : HasLeft start old = rw c.in-Left.is at h in
    closed_exit c.from_residual-in_err-write_record-in-Left.result (ended_by trouble) start now c.from_residual-in_err-write_record-in-Left.ensures.1
    (tells_failed trouble start old now left.0 refl c.in_err-write_record-in-Left.ensures left.1)

pub returns-in-Left : goal.returns-in-Left
returns-in-Left g c = λ start h.
    let old : Heard = heard g.S.Source.remaining g.W.Sink.contents c.args.line.now in
    let now : Heard = record { input = old.input; output = spoken g.W.Sink.contents c.write_record-in-Left.new.port } in
    left_told (tt {0}) start old now refl c.in_ok-write_record-in-Left.ensures (rw c.in-Left.is at h)

pub returns-in_err-keep_record : goal.returns-in_err-keep_record
returns-in_err-keep_record g c = λ start h.
    let now : Heard = heard g.S.Source.remaining g.W.Sink.contents c.args.line.now in
    closed_exit c.from_residual-in_err-keep_record.result OutOfMemory start now c.from_residual-in_err-keep_record.ensures.1 (closed_cut c.args.closed start now h)
