-- Answers to the goals of `put_output`.
use Rattle.std.proofs.Common.{refl}
use Rattle.qrev_views.proofs.machine.put_output.Goals as goal

pub returns : goal.returns
returns g c = rw (c.in_ok-list.ensures, c.as_str.ensures.value, c.in_ok-output.ensures) refl
