-- Answers to the goals of `put_end`.
use Rattle.std.proofs.Common.{append_assoc, refl}
use Rattle.qrev_views.proofs.frames.put_end.Goals as goal

pub returns : goal.returns
returns g c = rw (c.in_ok-list.ensures, c.in_ok-item.ensures, append_assoc, c.as_str.ensures.value, c.in_ok-place.ensures) refl
