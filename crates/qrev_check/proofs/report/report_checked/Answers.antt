-- A program whose data can be laid out, or the fault of its first object that can't.
use Rattle.std.proofs.Common.{◌∙◌, sym, ap}
use Rattle.qil_tree.specs.declared.tree.Program.{Program}
use Rattle.qil_layout.specs.Layout.{fault_of}
use Rattle.qrev_check.specs.Report.{setup_of}
use Rattle.qrev_check.proofs.Starting.{unlaid}
use Rattle.qrev_check.proofs.report.report_checked.Goals as goal

pub returns-in-Ok : goal.returns-in-Ok
returns-in-Ok g c = λ none text verdict checks same.
    c.report_image.ensures none text verdict (record { checks = checks; lies = ap (λ (p : Program g.row.A.Denot). fault_of p) (sym same) ∙ c.in-Ok.ensures.no_fault }) same

pub returns-in-Err : goal.returns-in-Err
returns-in-Err g c = λ none text verdict checks same.
    unlaid (setup_of text c.args.request.now) verdict c.args.checked.now.program c.in-Err.error c.layout_outcome.result _ checks same c.in-Err.ensures.fault c.layout_outcome.ensures
