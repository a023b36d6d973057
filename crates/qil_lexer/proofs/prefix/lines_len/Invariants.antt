-- What the loop of `lines_len` keeps, and its measure.
use Rattle.std.proofs.Common.{◌-◌, ◌≤◌, length, take}
use Rattle.qil_lexer.specs.Shape.{AreLines}
use Rattle.qil_lexer.proofs.prefix.lines_len.Given as goal

abbrev pub invariant-loop-len : goal.invariant-loop-len
invariant-loop-len l = record { within : l.end ≤ length l.tail; lines : AreLines (take l.end l.tail) }

abbrev pub decreases-loop-len : goal.decreases-loop-len
decreases-loop-len l = length l.tail - l.end
