-- A launch that was refused leaves nothing to be done.
use Rattle.qrev_notices.specs.Reading.{Heard, heard}
use Rattle.qrev_adapter.proofs.Hearing.{stands_exit}
use Rattle.qrev_adapter.proofs.serving.launch_asked.Goals as goal

pub returns-in_err-refuse_unfit-in-Err : goal.returns-in_err-refuse_unfit-in-Err
returns-in_err-refuse_unfit-in-Err g c = λ stays start before h.
    let now : Heard = heard g.S.Source.remaining g.W.Sink.contents c.refuse_unfit.new.line in stands_exit c.from_residual.result c.in_err-refuse_unfit-in-Err.field-0.0 start now c.from_residual.ensures.1 (c.in_err-refuse_unfit-in-Err.ensures start before h stays)

pub returns-in-Err : goal.returns-in-Err
returns-in-Err g c = λ stays start before h.
    c.after.ensures start (heard g.S.Source.remaining g.W.Sink.contents c.refuse_unfit.new.line) (c.in_ok-refuse_unfit-in-Err.ensures start before h stays)
