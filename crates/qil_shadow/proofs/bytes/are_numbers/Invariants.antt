-- All bytes are numbers if those that are left are.
use Rattle.std.proofs.Common.{◌≡◌, drop}
use Rattle.qil_shadow.specs.Bytes.{are_numbers}
use Rattle.qil_shadow.proofs.bytes.are_numbers.Given as goal

abbrev pub invariant-loop-byte : goal.invariant-loop-byte
invariant-loop-byte l = are_numbers (drop l.byte-index l.bytes) ≡ are_numbers l.bytes
