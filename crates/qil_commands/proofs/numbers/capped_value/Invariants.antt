-- The digits so far, and then those that are left, make the same capped value as all digits.
use Rattle.std.proofs.Common.{◌≡◌, ◌≤◌, ◌^◌, drop, min}
use Rattle.qil_commands.proofs.NumberLemmas.{value_after}
use Rattle.qil_commands.proofs.numbers.capped_value.Given as goal

abbrev pub invariant-loop-digit : goal.invariant-loop-digit
invariant-loop-digit l = record {
  capped : l.value ≤ 2 ^ 64;
  so_far : min (value_after l.value (drop l.digit-index l.digits)) (2 ^ 64) ≡ min (value_after 0 l.digits) (2 ^ 64);
}
