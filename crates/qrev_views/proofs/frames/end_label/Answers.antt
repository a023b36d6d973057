-- Answers to the goals of `end_label`.
use Rattle.std.proofs.Common.{append_assoc, refl}
use Rattle.qrev_views.proofs.frames.end_label.Goals as goal

pub returns : goal.returns
returns g c = rw (c.in_ok-list.ensures, c.in_ok-text.ensures, c.in_ok-number-2.ensures, c.in_ok-number.ensures, append_assoc, append_assoc, append_assoc) refl
