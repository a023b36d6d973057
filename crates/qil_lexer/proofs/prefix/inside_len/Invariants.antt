-- What the loop of `inside_len` keeps, and its measure.
use Rattle.std.proofs.Common.{ℕ, ◌-◌, ◌≤◌, length, drop}
use Rattle.qil_lexer.specs.Shape.{Items}
use Rattle.qil_lexer.proofs.prefix.inside_len.Given as goal

abbrev pub invariant-loop-len : goal.invariant-loop-len
invariant-loop-len l = record { within : l.end ≤ length l.tail; items : (n : ℕ) × Items n l.tail (drop l.end l.tail) }

abbrev pub decreases-loop-len : goal.decreases-loop-len
decreases-loop-len l = length l.tail - l.end
