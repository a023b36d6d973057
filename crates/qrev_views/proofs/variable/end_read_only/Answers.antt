-- Answers to the goals of `end_read_only`.
use Rattle.std.proofs.Common.{append_assoc, refl}
use Rattle.qrev_views.proofs.variable.end_read_only.Goals as goal

pub returns : goal.returns
returns g c = rw (c.in_ok-list.ensures, c.in_ok-end-2.ensures, c.in_ok-end.ensures, c.in_ok-text.ensures, c.in_ok-array.ensures, c.in_ok-object.ensures, append_assoc, append_assoc, append_assoc, append_assoc, append_assoc) refl
