-- Answers to the goals of `showing_said`.
use Rattle.std.proofs.Common.{refl}
use Rattle.qrev_inspection.proofs.looking.showing_said.Goals as goal

pub returns : goal.returns
returns g c = rw (c.unwrap_or.ensures, c.flag.ensures, c.inside.ensures) refl
