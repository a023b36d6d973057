-- Answers to the goals of `put_address`.
use Rattle.std.proofs.Common.{refl}
use Rattle.qrev_inspection.proofs.memory.put_address.Goals as goal

pub returns : goal.returns
returns g c = rw (c.in_ok-body.ensures, c.as_str.ensures.value, c.in_ok-address.ensures) refl
