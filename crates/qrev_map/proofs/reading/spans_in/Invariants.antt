-- The loop over the lines that byte 10 ends.
use Rattle.std.proofs.Common.{length, ◌-◌}
use Rattle.qrev_map.proofs.Told.{IsRead}
use Rattle.qrev_map.proofs.reading.spans_in.Given as goal

abbrev pub invariant-loop-length : goal.invariant-loop-length
invariant-loop-length g l = IsRead l.fn.text l.start l.spans.items

abbrev pub decreases-loop-length : goal.decreases-loop-length
decreases-loop-length g l = length l.fn.text - l.start
