-- Each restart is responded to as it is read.
use Rattle.std.proofs.Common.{List, ℕ, subst, sym}
use Rattle.std.specs.Prelude.{Ok}
use Rattle.qrev_notices.specs.Reading.{Heard, heard, AsksToStay, IsRead, IsClosed}
use Rattle.qrev_notices.specs.declared.line.Closed.TheVariants.{Restarted}
use Rattle.qrev_adapter.proofs.Hearing.{stands_exit, closed_broken}
use Rattle.qrev_adapter.proofs.serving.serve_launch.Goals as goal

pub returns-in_err-closed : goal.returns-in_err-closed
returns-in_err-closed g c = λ stays start before h.
    let now : Heard = heard g.S.Source.remaining g.W.Sink.contents c.open_mapped.new.line in
    stands_exit c.from_residual.result c.in_err-closed.field-0.0 start now c.from_residual.ensures.1 (c.in_err-closed.ensures start before h stays)

pub returns-in_default : goal.returns-in_default
returns-in_default g c = λ stays start before h. c.after.ensures start (heard g.S.Source.remaining g.W.Sink.contents c.loop.line) (c.loop.invariant stays start before h)

pub returns-in_err-closed-2 : goal.returns-in_err-closed-2
returns-in_err-closed-2 g c = λ stays start before h.
    let old : Heard = heard g.S.Source.remaining g.W.Sink.contents c.loop.line in
    let now : Heard = heard g.S.Source.remaining g.W.Sink.contents c.open_again.new.line in
    let restart : IsClosed (Ok (Restarted c.in-Restarted.body)) start old = rw c.in-Restarted.is at (c.loop.invariant stays start before h) in
    let same = sym c.as_slice.ensures.value in
    let read = subst (λ (b : List ℕ). IsRead start b old) same restart.0 in
    stands_exit c.from_residual-in_err-closed-2.result c.in_err-closed-2.field-0.0 start now c.from_residual-in_err-closed-2.ensures.1 (c.in_err-closed-2.ensures start read (subst AsksToStay same restart.1))

pub loop-preserved : goal.loop-preserved
loop-preserved g c = λ stays start before h.
    let old : Heard = heard g.S.Source.remaining g.W.Sink.contents c.loop.line in
    let restart : IsClosed (Ok (Restarted c.in-Restarted.body)) start old = rw c.in-Restarted.is at (c.loop.invariant stays start before h) in
    let same = sym c.as_slice.ensures.value in
    let read = subst (λ (b : List ℕ). IsRead start b old) same restart.0 in c.in_ok-closed-2.ensures start read (subst AsksToStay same restart.1)

pub returns : goal.returns
returns g c = λ stays start before h. closed_broken c.loop.closed start (heard g.S.Source.remaining g.W.Sink.contents c.loop.line) (c.loop.invariant stays start before h)
