-- The goals of `signed_value` that the check leaves open.
use Rattle.qil_ops.proofs.WholeNumbers.{bits_again}
use Rattle.qil_ops.proofs.laws.signed_value.Goals as goal

pub returns-clause-bits : goal.returns-clause-bits
returns-clause-bits c n v h = bits_again n v
