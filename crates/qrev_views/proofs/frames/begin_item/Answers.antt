-- Answers to the goals of `begin_item`.
use Rattle.std.proofs.Common.{append_assoc, refl}
use Rattle.qrev_views.proofs.frames.begin_item.Goals as goal

pub returns : goal.returns
returns g c = rw (c.in_ok-item.ensures, c.in_ok-number.ensures, c.in_ok-object.ensures, append_assoc, append_assoc) refl
