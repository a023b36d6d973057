-- What the loop of `decimal_after` keeps, and its measure.
use Rattle.std.proofs.Common.{◌≡◌, ◌<◌, ◌^◌, drop}
use Rattle.qil_lexer.specs.Shape.{decimal_after}
use Rattle.qil_lexer.proofs.prefix.decimal_after.Given as goal

abbrev pub invariant-loop-d : goal.invariant-loop-d
invariant-loop-d l = record { fits : l.value < 2 ^ 64; so_far : decimal_after l.value (drop l.d-index l.digits) ≡ decimal_after l.start l.digits }
