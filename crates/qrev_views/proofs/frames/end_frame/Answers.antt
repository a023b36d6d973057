-- Answers to the goals of `end_frame`.
use Rattle.std.proofs.Common.{append_assoc, refl}
use Rattle.qrev_views.proofs.frames.end_frame.Goals as goal

pub returns : goal.returns
returns g c = rw (c.in_ok-list.ensures, c.in_ok-number.ensures, append_assoc) refl
