-- Of runs that are the same one line, and else both sides behind it.
use Rattle.qil_streams.proofs.TextLemmas.{HasPut-as, HasPut-append, HasPut-stop}
use Rattle.qil_comparison.specs.Told.{verdict_line, sides_text}
use Rattle.qil_comparison.proofs.Values.{told_same, told_other}
use Rattle.qil_comparison.proofs.telling.put_answer.Goals as goal

pub returns-then-is_same : goal.returns-then-is_same
returns-then-is_same g c =
    HasPut-as (told_same (g.R.Readers.whole c.args.good.now).program (g.R.Readers.whole c.args.bad.now).program (g.R.Forward.timeline c.args.good.now) (g.R.Forward.timeline c.args.bad.now) c.args.answer.verdict c.args.answer
    (c.is_same.ensures.0 c.if-is_same.true)) c.put_verdict.ensures

pub returns-in_err-put_verdict : goal.returns-in_err-put_verdict
returns-in_err-put_verdict g c =
    HasPut-as (told_other (g.R.Readers.whole c.args.good.now).program (g.R.Readers.whole c.args.bad.now).program (g.R.Forward.timeline c.args.good.now) (g.R.Forward.timeline c.args.bad.now) c.args.answer.verdict c.args.answer c.is_same.result
    c.is_same.ensures c.if-is_same.false)
    (HasPut-stop _ _ c.from_residual.ensures.1 _ _ _ (verdict_line c.args.answer.verdict c.args.answer.events)
    (sides_text (g.R.Readers.whole c.args.good.now).program (g.R.Readers.whole c.args.bad.now).program (g.R.Forward.timeline c.args.good.now) (g.R.Forward.timeline c.args.bad.now) c.args.answer) c.in_err-put_verdict.ensures)

pub returns : goal.returns
returns g c =
    HasPut-as (told_other (g.R.Readers.whole c.args.good.now).program (g.R.Readers.whole c.args.bad.now).program (g.R.Forward.timeline c.args.good.now) (g.R.Forward.timeline c.args.bad.now) c.args.answer.verdict c.args.answer c.is_same.result
    c.is_same.ensures c.if-is_same.false)
    (HasPut-append _ _ _ _ _ (verdict_line c.args.answer.verdict c.args.answer.events)
    (sides_text (g.R.Readers.whole c.args.good.now).program (g.R.Readers.whole c.args.bad.now).program (g.R.Forward.timeline c.args.good.now) (g.R.Forward.timeline c.args.bad.now) c.args.answer) c.in_ok-put_verdict.ensures c.put_sides.ensures)
