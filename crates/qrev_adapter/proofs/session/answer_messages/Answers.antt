-- Each message is answered before the next is read.
use Rattle.std.proofs.Common.{refl, ap, sym, subst, List, ℕ}
use Rattle.qrev_notices.specs.Conversation.{spoken, Spoken, HasReplied}
use Rattle.qrev_notices.specs.Reading.{Heard, heard, IsFarewell, IsStaying, AsksToStay, IsRead, ended_by}
use Rattle.qrev_notices.proofs.Standing.{answered_idle, given_up}
use Rattle.qrev_adapter.proofs.Hearing.{next_failed, read_next, read_none, closed_exit, hears_failed, heard_idle, heard_answered, still_read}
use Rattle.qrev_adapter.proofs.session.answer_messages.Goals as goal

pub loop-init : goal.loop-init
loop-init g c = λ start h. answered_idle start (heard g.S.Source.remaining g.W.Sink.contents c.args.line.now) h

pub returns-in_err-body : goal.returns-in_err-body
returns-in_err-body g c = λ start h.
    let old : Heard = heard g.S.Source.remaining g.W.Sink.contents c.loop.line in
    let now : Heard = heard g.S.Source.remaining g.W.Sink.contents c.next.new.self in
    let ended = c.in_err-body.field-0.0 in
    let silent = ap (spoken g.W.Sink.contents) c.in_err-body.ensures.silent in
    closed_exit c.from_residual.result ended start now c.from_residual.ensures.1 (next_failed g.row.A.Denot ended start old now (c.loop.invariant start h) c.in_err-body.ensures.read silent)

pub returns-in-None : goal.returns-in-None
returns-in-None g c = λ start h.
    let old : Heard = heard g.S.Source.remaining g.W.Sink.contents c.loop.line in
    let now : Heard = heard g.S.Source.remaining g.W.Sink.contents c.next.new.self in
    let silent = ap (spoken g.W.Sink.contents) c.in_ok-body.ensures.silent in
    read_none _ start old now c.in_ok-body.field-0 c.in-None.is (c.loop.invariant start h) c.in_ok-body.ensures.read silent

pub returns-in_err-answer_message : goal.returns-in_err-answer_message
returns-in_err-answer_message g c = λ start h.
    let old : Heard = heard g.S.Source.remaining g.W.Sink.contents c.loop.line in
    let mid : Heard = heard g.S.Source.remaining g.W.Sink.contents c.next.new.self in
    let now : Heard = record { input = mid.input; output = spoken g.W.Sink.contents c.answer_message.new.port } in
    let body = c.as_slice.result.now in
    let silent = ap (spoken g.W.Sink.contents) c.in_ok-body.ensures.silent in
    let read : IsRead start body mid = read_next _ start old mid c.in_ok-body.field-0 c.in-Some.body body c.in-Some.is c.as_slice.ensures.value (c.loop.invariant start h) c.in_ok-body.ensures.read silent in
    let trouble = c.in_err-answer_message.field-0.0 in
    closed_exit c.from_residual-in_err-answer_message.result (ended_by trouble) start now c.from_residual-in_err-answer_message.ensures.1 (hears_failed trouble start mid now body read refl c.in_err-answer_message.ensures)

pub returns-in-End-Terminated : goal.returns-in-End-Terminated
returns-in-End-Terminated g c = λ start h.
    let old : Heard = heard g.S.Source.remaining g.W.Sink.contents c.loop.line in
    let mid : Heard = heard g.S.Source.remaining g.W.Sink.contents c.next.new.self in
    let now : Heard = record { input = mid.input; output = spoken g.W.Sink.contents c.answer_message.new.port } in
    let body = c.as_slice.result.now in
    let silent = ap (spoken g.W.Sink.contents) c.in_ok-body.ensures.silent in
    let read : IsRead start body mid = read_next _ start old mid c.in_ok-body.field-0 c.in-Some.body body c.in-Some.is c.as_slice.ensures.value (c.loop.invariant start h) c.in_ok-body.ensures.read silent in
    heard_answered IsStaying start mid now body read refl ((rw c.in-End-Terminated.field-0-is at (rw c.in-End-Terminated.is at c.in_ok-answer_message.ensures)) start.output read.1 read.6)

pub returns-in-End-Left : goal.returns-in-End-Left
returns-in-End-Left g c = λ start h.
    let old : Heard = heard g.S.Source.remaining g.W.Sink.contents c.loop.line in
    let mid : Heard = heard g.S.Source.remaining g.W.Sink.contents c.next.new.self in
    let now : Heard = record { input = mid.input; output = spoken g.W.Sink.contents c.answer_message.new.port } in
    let body = c.as_slice.result.now in
    let silent = ap (spoken g.W.Sink.contents) c.in_ok-body.ensures.silent in
    let read : IsRead start body mid = read_next _ start old mid c.in_ok-body.field-0 c.in-Some.body body c.in-Some.is c.as_slice.ensures.value (c.loop.invariant start h) c.in_ok-body.ensures.read silent in
    heard_answered IsFarewell start mid now body read refl ((rw c.in-End-Left.field-0-is at (rw c.in-End-Left.is at c.in_ok-answer_message.ensures)) start.output read.1 read.6)

pub returns-in-Restart : goal.returns-in-Restart
returns-in-Restart g c = λ start h.
    let old : Heard = heard g.S.Source.remaining g.W.Sink.contents c.loop.line in
    let mid : Heard = heard g.S.Source.remaining g.W.Sink.contents c.next.new.self in
    let now : Heard = record { input = mid.input; output = spoken g.W.Sink.contents c.answer_message.new.port } in
    let body = c.as_slice.result.now in
    let silent = ap (spoken g.W.Sink.contents) c.in_ok-body.ensures.silent in
    let read : IsRead start body mid = read_next _ start old mid c.in_ok-body.field-0 c.in-Some.body body c.in-Some.is c.as_slice.ensures.value (c.loop.invariant start h) c.in_ok-body.ensures.read silent in
    let restart = rw c.in-Restart.is at c.in_ok-answer_message.ensures in (
      subst (λ (b : List ℕ). IsRead start b now) c.as_slice.ensures.value (still_read start mid now body read refl (subst (λ (s : Spoken). HasReplied start.output read.1 s) (sym restart.1) read.6)),
      subst AsksToStay c.as_slice.ensures.value restart.0,
    )

pub loop-preserved : goal.loop-preserved
loop-preserved g c = λ start h.
    let old : Heard = heard g.S.Source.remaining g.W.Sink.contents c.loop.line in
    let mid : Heard = heard g.S.Source.remaining g.W.Sink.contents c.next.new.self in
    let now : Heard = record { input = mid.input; output = spoken g.W.Sink.contents c.answer_message.new.port } in
    let body = c.as_slice.result.now in
    let silent = ap (spoken g.W.Sink.contents) c.in_ok-body.ensures.silent in
    let read : IsRead start body mid = read_next _ start old mid c.in_ok-body.field-0 c.in-Some.body body c.in-Some.is c.as_slice.ensures.value (c.loop.invariant start h) c.in_ok-body.ensures.read silent in
    heard_idle start mid now body read refl ((rw c.in-Message.is at c.in_ok-answer_message.ensures) start.output read.1 read.6)

pub returns : goal.returns
returns g c = λ start h. given_up start (heard g.S.Source.remaining g.W.Sink.contents c.loop.line) (c.loop.invariant start h)
