-- The function of the entry, the machine at its start, and the pass over it.
use Rattle.std.proofs.Common.{◌∙◌, sym, refl}
use Rattle.qil_machine.proofs.StartedState.{missing_entry}
use Rattle.qil_semantics.specs.declared.start.StartFault.TheVariants as faults
use Rattle.qrev_check.specs.Report.{setup_of}
use Rattle.qrev_check.proofs.Starting.{start_refused, unstarted, starts}
use Rattle.qrev_check.proofs.report.report_flat.Goals as goal

pub returns-in_default : goal.returns-in_default
returns-in_default g c = λ none text verdict accepts same.
    start_refused (setup_of text c.args.request.now) verdict c.args.code.now.program faults.NoEntry _ accepts same
    (missing_entry c.args.code.now.program c.args.request.now.entry.now c.args.request.now.args.now c.func_named.result c.in_default.is (rw c.code-numbered.ensures.code at c.func_named.ensures))

pub returns-in-Ok-new : goal.returns-in-Ok-new
returns-in-Ok-new g c = λ none text verdict accepts same.
    let found = starts text c.args.request.now verdict c.args.code.now.program c.in-Some.func.index c.in-Ok-start.machine.whole c.in-Ok-new.pass accepts same
    (rw c.code-numbered.ensures.code at c.names_are_distinct.ensures.finds) (sym (rw c.code-numbered.ensures.code at c.in-Some.ensures))
    c.in-Ok-start.ensures.ok c.in-Ok-start.ensures.program c.in-Ok-new.ensures.machine
    (c.in-Ok-new.ensures.start (c.as_slice.ensures.value ∙ c.in-Ok.ensures.none none)) in
    c.make_pass.ensures (setup_of text c.args.request.now) verdict found.0 found.1 refl found.2 found.3 found.4

pub returns : goal.returns
returns g c = λ none text verdict accepts same.
    unstarted (setup_of text c.args.request.now) verdict c.args.code.now.program c.in-Err.error c.start_outcome.result _ accepts same c.in-Err.ensures.fault c.start_outcome.ensures
