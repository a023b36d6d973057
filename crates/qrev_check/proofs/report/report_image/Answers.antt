-- The code is of the same program.
use Rattle.std.proofs.Common.{◌∙◌}
use Rattle.qrev_check.proofs.report.report_image.Goals as goal

pub returns-in-Ok : goal.returns-in-Ok
returns-in-Ok g c = λ none text verdict accepts same. c.report_code.ensures none text verdict accepts (c.in-Ok.ensures ∙ same)
