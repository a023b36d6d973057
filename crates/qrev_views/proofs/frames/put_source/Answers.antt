-- Answers to the goals of `put_source`.
use Rattle.std.proofs.Common.{refl, append_assoc}
use Rattle.qrev_views.proofs.frames.put_source.Goals as goal

pub returns : goal.returns
returns g c = (c.unwrap_or-name.result.now, rw (c.in_ok-body.ensures, c.in_ok-text-2.ensures, c.in_ok-text.ensures, c.in_ok-object.ensures, append_assoc, append_assoc, append_assoc) refl)
