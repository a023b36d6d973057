-- Answers to the goals of `put_hinted`.
use Rattle.std.proofs.Common.{append_assoc, refl}
use Rattle.qrev_views.proofs.scopes.put_hinted.Goals as goal

pub returns : goal.returns
returns g c = rw (c.in_ok-list.ensures, c.in_ok-scope.ensures, c.in_ok-text.ensures, c.in_ok-object.ensures, append_assoc, append_assoc, append_assoc) refl
