-- The instructions so far are plain.
use Rattle.std.proofs.Common.{◌≤◌}
use Rattle.qil_compare.specs.Ahead.{ArePlain}
use Rattle.qil_compare.proofs.ahead.first_other.Given as goal

abbrev pub invariant-loop-at : goal.invariant-loop-at
invariant-loop-at g l = ArePlain l.writes l.insts l.from l.at
