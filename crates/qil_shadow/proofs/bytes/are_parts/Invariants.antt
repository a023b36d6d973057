-- All bytes follow one another if those that are left do.
use Rattle.std.proofs.Common.{◌≡◌, ◌+◌, drop}
use Rattle.qil_shadow.specs.Bytes.{are_parts}
use Rattle.qil_shadow.proofs.bytes.are_parts.Given as goal

abbrev pub invariant-loop-byte : goal.invariant-loop-byte
invariant-loop-byte l = (l.place ≡ l.first + l.byte-index) × (are_parts l.object l.place (drop l.byte-index l.bytes) ≡ are_parts l.object l.first l.bytes)
