-- Answers to the goals of `put_scopes`.
use Rattle.std.proofs.Common.{append_assoc, refl}
use Rattle.qrev_views.proofs.scopes.put_scopes.Goals as goal

pub returns : goal.returns
returns g c = rw (c.in_ok-body.ensures, c.in_ok-list-3.ensures, c.in_ok-list-2.ensures, c.in_ok-list.ensures, c.in_ok-array.ensures, append_assoc, append_assoc, append_assoc, append_assoc) refl
