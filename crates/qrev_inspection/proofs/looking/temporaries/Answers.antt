-- Answers to the goals of `temporaries`.
use Rattle.std.proofs.Common.{refl, ap, inr, ℕ}
use Rattle.std.proofs.lemmas.Result.{IfErr-weaker, IfOk-weaker}
use Rattle.qrev_debuggee.specs.declared.failure.Failure.TheVariants.{Because}
use Rattle.qrev_debuggee.specs.declared.failure.Cause.TheVariants.{NoSuchVariables}
use Rattle.qrev_inspection.specs.Requested.{frame_numbered}
use Rattle.qrev_inspection.proofs.Lifting.{none_numbered, temporaries_shown}
use Rattle.qrev_inspection.proofs.looking.temporaries.Goals as goal

pub returns-then-number-eq0-clause-fails : goal.returns-then-number-eq0-clause-fails
returns-then-number-eq0-clause-fails g c = inr (refl, ap (λ (n : ℕ). frame_numbered n (g.L.Debugged.state c.args.debuggee.now.recorder.live).timeline.now.frames) c.if-number-eq0.true)

pub returns-clause-shown : goal.returns-clause-shown
returns-clause-shown g c =
    let s = g.L.Debugged.state c.args.debuggee.now.recorder.live in
    IfOk-weaker c.frame_variables.result _ _
    (λ o shown. temporaries_shown (g.L.Readers.whole c.machine-machine.result.now) s.program s.timeline.now c.args.debuggee.now.names.text.items c.args.showing c.args.number c.args.page shown.0 c.args.body.out o.out
    c.machine-machine.ensures.now c.machine-machine.ensures.program c.if-number-eq0.false shown.1 shown.2) c.frame_variables.ensures.shown

pub returns-clause-fails : goal.returns-clause-fails
returns-clause-fails g c =
    IfErr-weaker c.frame_variables.result _ _
    (λ why missing. none_numbered (g.L.Readers.whole c.machine-machine.result.now) (g.L.Debugged.state c.args.debuggee.now.recorder.live).timeline.now why (Because NoSuchVariables) c.args.number c.machine-machine.ensures.now missing)
    c.frame_variables.ensures.fails
