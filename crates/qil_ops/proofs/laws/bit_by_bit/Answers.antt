-- The goals of `bit_by_bit` that the check leaves open.
use Rattle.std.proofs.lemmas.Nat.Bits.{bit_at_and, bit_at_or, bit_at_xor}
use Rattle.qil_ops.proofs.laws.bit_by_bit.Goals as goal

pub returns-clause-and : goal.returns-clause-and
returns-clause-and c = bit_at_and

pub returns-clause-or : goal.returns-clause-or
returns-clause-or c = bit_at_or

pub returns-clause-xor : goal.returns-clause-xor
returns-clause-xor c = bit_at_xor
