-- Answers to the goals of `set_variable`.
use Rattle.std.proofs.Common.{inl, refl}
use Rattle.qrev_inspection.proofs.Exits.{handed_on}
use Rattle.qrev_inspection.proofs.setting.set_variable.Goals as goal

pub returns-in_err-set-clause-stays : goal.returns-in_err-set-clause-stays
returns-in_err-set-clause-stays g c = handed_on c.from_residual.result _ _ c.from_residual.ensures.1 c.in_err-set.ensures.stays

pub returns-in_err-set-clause-refused : goal.returns-in_err-set-clause-refused
returns-in_err-set-clause-refused g c = handed_on c.from_residual.result _ _ c.from_residual.ensures.1 c.in_err-set.ensures.refused

pub returns-in_err-put_value-clause-refused : goal.returns-in_err-put_value-clause-refused
returns-in_err-put_value-clause-refused g c =
    handed_on c.from_residual-in_err-put_value.result _ _ c.from_residual-in_err-put_value.ensures.1
    (record { reference = c.in_ok-set.ensures.set.reference; is_said = c.in_ok-set.ensures.set.is_said; refused = λ one none is n says few. inl refl })
