-- What is kept of a checked program holds of what is seen of it.
use Rattle.std.proofs.Common.{subst}
use Rattle.qil_rules.specs.Verdict.{Verdict}
use Rattle.qil_rules.specs.Forms.{HasForm}
use Rattle.qil_rules.proofs.checked.Checked.form.Goals as goal

pub returns-clause-has_form : goal.returns-clause-has_form
returns-clause-has_form g c = subst (λ (v : Verdict g.row.A.Denot). HasForm v.program v.form) c.self.view_is c.self.invariant.2
