-- The lines so far are within the text.
use Rattle.std.proofs.Common.{◌-◌, ◌≤◌, length}
use Rattle.qrev_map.proofs.names.Names.data_class_told.Given as goal

abbrev pub invariant-loop-length : goal.invariant-loop-length
invariant-loop-length g l = l.start ≤ length l.fn.self.text.items

abbrev pub decreases-loop-length : goal.decreases-loop-length
decreases-loop-length g l = length l.fn.self.text.items - l.start
