-- What the loop of `string_bytes` keeps, and its measure.
use Rattle.std.proofs.Common.{ℕ, ◌≤◌, ◌-◌, ◌++◌, List, length, drop}
use Rattle.qil_lexer.specs.Shape.{ItemValues}
use Rattle.qil_lexer.proofs.value.string_bytes.Given as goal

-- whatever values go on from here, the bytes before them go before them
abbrev pub invariant-loop-len : goal.invariant-loop-len
invariant-loop-len g l = record {
  within : l.at ≤ length l.text;
  goes_on : (values rest : List ℕ) → ItemValues values (drop l.at l.text) rest → ItemValues (l.bytes.items ++ values) (drop 1 l.text) rest;
}

abbrev pub decreases-loop-len : goal.decreases-loop-len
decreases-loop-len g l = length l.text - l.at
