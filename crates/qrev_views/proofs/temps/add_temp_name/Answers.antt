-- Answers to the goals of `add_temp_name`.
use Rattle.std.proofs.Common.{refl}
use Rattle.qrev_views.proofs.temps.add_temp_name.Goals as goal

pub returns : goal.returns
returns g c = rw (c.in_ok-variable.ensures, c.as_str.ensures.value, c.in_ok-name.ensures) refl
