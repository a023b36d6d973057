-- Answers to the goals of `begin_temp`.
use Rattle.std.proofs.Common.{refl}
use Rattle.qrev_views.proofs.temps.begin_temp.Goals as goal

pub returns : goal.returns
returns g c = rw (c.in_ok-variable.ensures, c.as_str.ensures.value, c.in_ok-name.ensures) refl
