-- Answers to the goals of `variables_of`.
use Rattle.std.proofs.Common.{arith, ◌≤◌}
use Rattle.std.proofs.lemmas.Result.{IfErr-weaker, IfOk-weaker}
use Rattle.qrev_inspection.proofs.Lifting.{as_data, as_frame, as_machine, as_part, no_frame, no_part, ok_all}
use Rattle.qrev_inspection.proofs.looking.variables_of.Goals as goal

pub returns-then-reference-eq-MACHINE-clause-shown : goal.returns-then-reference-eq-MACHINE-clause-shown
returns-then-reference-eq-MACHINE-clause-shown g c =
    as_machine (g.L.Debugged.state c.args.debuggee.now.recorder.live) c.args.debuggee.now.names.text.items c.args.showing c.args.reference c.args.page c.args.body.out c.in_ok-machine_variables.field-0.out
    c.if-reference-eq-MACHINE.true c.in_ok-machine_variables.ensures

pub returns-then-reference-eq-DATA-clause-shown : goal.returns-then-reference-eq-DATA-clause-shown
returns-then-reference-eq-DATA-clause-shown g c =
    as_data (g.L.Debugged.state c.args.debuggee.now.recorder.live) c.args.debuggee.now.names.text.items c.args.showing c.args.reference c.args.page c.args.body.out c.in_ok-data_variables.field-0.out
    c.if-reference-eq-DATA.true c.in_ok-data_variables.ensures

pub returns-then-reference-ge-OBJECTS-clause-shown : goal.returns-then-reference-ge-OBJECTS-clause-shown
returns-then-reference-ge-OBJECTS-clause-shown g c =
    let s = g.L.Debugged.state c.args.debuggee.now.recorder.live in
    let many : 1073741826 ≤ c.args.reference = c.if-reference-ge-OBJECTS.true in
    ok_all c.object_variables.result _
    (λ o. as_part s c.args.debuggee.now.names.text.items c.args.showing c.args.reference c.args.page c.args.body.out o.out (omega (arith, many)) c.if-reference-eq-MACHINE.false c.if-reference-eq-DATA.false)

pub returns-then-reference-ge-OBJECTS-clause-fails : goal.returns-then-reference-ge-OBJECTS-clause-fails
returns-then-reference-ge-OBJECTS-clause-fails g c =
    let frames = (g.L.Debugged.state c.args.debuggee.now.recorder.live).timeline.now.frames in
    let many : 1073741826 ≤ c.args.reference = c.if-reference-ge-OBJECTS.true in
    IfErr-weaker c.object_variables.result _ _ (λ why none. no_part why c.args.reference frames (omega (arith, many)) c.if-reference-eq-MACHINE.false c.if-reference-eq-DATA.false none) c.object_variables.ensures

pub returns-then-reference-ge-POINTED-clause-shown : goal.returns-then-reference-ge-POINTED-clause-shown
returns-then-reference-ge-POINTED-clause-shown g c =
    let s = g.L.Debugged.state c.args.debuggee.now.recorder.live in
    ok_all c.pointed_variables.result _
    (λ o. as_part s c.args.debuggee.now.names.text.items c.args.showing c.args.reference c.args.page c.args.body.out o.out c.if-reference-ge-POINTED.true c.if-reference-eq-MACHINE.false c.if-reference-eq-DATA.false)

pub returns-then-reference-ge-POINTED-clause-fails : goal.returns-then-reference-ge-POINTED-clause-fails
returns-then-reference-ge-POINTED-clause-fails g c =
    let frames = (g.L.Debugged.state c.args.debuggee.now.recorder.live).timeline.now.frames in
    IfErr-weaker c.pointed_variables.result _ _ (λ why none. no_part why c.args.reference frames c.if-reference-ge-POINTED.true c.if-reference-eq-MACHINE.false c.if-reference-eq-DATA.false none) c.pointed_variables.ensures

pub returns-clause-shown : goal.returns-clause-shown
returns-clause-shown g c =
    let s = g.L.Debugged.state c.args.debuggee.now.recorder.live in
    IfOk-weaker c.temporaries.result _ _
    (λ o shown. as_frame s c.args.debuggee.now.names.text.items c.args.showing c.args.reference c.args.page c.args.body.out o.out c.if-reference-ge-POINTED.false shown) c.temporaries.ensures.shown

pub returns-clause-fails : goal.returns-clause-fails
returns-clause-fails g c =
    IfErr-weaker c.temporaries.result _ _ (λ why missing. no_frame why c.args.reference (g.L.Debugged.state c.args.debuggee.now.recorder.live).timeline.now.frames c.if-reference-ge-POINTED.false missing)
    c.temporaries.ensures.fails
