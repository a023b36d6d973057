-- No block so far has a place that the line means.
use Rattle.std.proofs.Common.{◌≡◌, drop}
use Rattle.qil_lines.specs.Marks.{marks_from}
use Rattle.qil_lines.specs.Lines.{place_from, marks_of}
use Rattle.qil_lines.proofs.lines.first_place.Given as goal

abbrev pub invariant-loop-number : goal.invariant-loop-number
invariant-loop-number g l = place_from l.line (marks_of l.func) ≡ place_from l.line (marks_from l.number (drop l.number l.func.blocks))
