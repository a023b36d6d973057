-- Answers to the goals of `put_source_line`.
use Rattle.std.proofs.Common.{refl, append_assoc}
use Rattle.qrev_views.proofs.frames.put_source_line.Goals as goal

pub returns : goal.returns
returns g c = let source = c.in_ok-put_source.ensures in (source.0, rw (c.in_ok-item.ensures, source.1, append_assoc) refl)
