-- Answers to the goals of `put_bytes`.
use Rattle.std.proofs.Common.{refl}
use Rattle.qrev_inspection.proofs.memory.put_bytes.Goals as goal

pub returns : goal.returns
returns g c = rw (c.in_ok-body.ensures, c.as_str.ensures.value, c.in_ok-text.ensures.text) refl
