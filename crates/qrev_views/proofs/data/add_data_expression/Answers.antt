-- Answers to the goals of `add_data_expression`.
use Rattle.std.proofs.Common.{refl}
use Rattle.qrev_views.proofs.data.add_data_expression.Goals as goal

pub returns : goal.returns
returns g c = rw (c.in_ok-variable.ensures, c.as_str.ensures.value, c.in_ok-expression.ensures) refl
