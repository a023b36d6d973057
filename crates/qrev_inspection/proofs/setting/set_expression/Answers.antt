-- Answers to the goals of `set_expression`.
use Rattle.qrev_inspection.proofs.Exits.{handed_on}
use Rattle.qrev_inspection.proofs.setting.set_expression.Goals as goal

pub returns-in_err-set-clause-stays : goal.returns-in_err-set-clause-stays
returns-in_err-set-clause-stays g c = handed_on c.from_residual.result _ _ c.from_residual.ensures.1 c.in_err-set.ensures.stays
