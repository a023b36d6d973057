-- The report of the run, or the part of it that the device took.
use Rattle.qil_suspicions.specs.Run.{CheckedRun}
use Rattle.qrev_check.proofs.Reports.{passed}
use Rattle.qrev_check.proofs.report.make_pass.Goals as goal

pub returns-in-Ok-report_of : goal.returns-in-Ok-report_of
returns-in-Ok-report_of g c = λ s verdict func begins el ep at es.
    passed s verdict func c.args.pass c.run.new.self c.args.limit begins el ep at es c.run.ensures.program c.run.ensures.few c.run.ensures.steps c.in-Ok.ensures.over c.in-Ok.ensures.notes
    c.in-Ok-report_of.line c.outcome_of.result c.in-Ok-report_of.ensures c.outcome_of.ensures.value c.write_report.result _ _ c.write_report.ensures
