-- The program that the text is.
use Rattle.std.proofs.Common.{refl}
use Rattle.qrev_check.proofs.report.report.Goals as goal

pub returns-in-Ok : goal.returns-in-Ok
returns-in-Ok g c = λ none. c.report_checked.ensures none c.args.text.now c.in-Ok.checked c.in-Ok.ensures.accepted refl
