-- A run that is over has ended, and another has come to its limit.
use Rattle.std.proofs.Common.{refl}
use Rattle.qil_compare.proofs.running.over_or_limit.Goals as goal

pub returns-then-is_at_end : goal.returns-then-is_at_end
returns-then-is_at_end g c = rw (← c.is_at_end.ensures, c.if-is_at_end.true) refl

pub returns-else-is_at_end : goal.returns-else-is_at_end
returns-else-is_at_end g c = rw (← c.is_at_end.ensures, c.if-is_at_end.false) refl
