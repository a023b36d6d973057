-- Answers to the goals of `put_reference`.
use Rattle.std.proofs.Common.{refl}
use Rattle.qrev_views.proofs.variable.put_reference.Goals as goal

pub returns : goal.returns
returns g c = rw (c.in_ok-variable.ensures, c.as_str.ensures.value, c.in_ok-address.ensures) refl
