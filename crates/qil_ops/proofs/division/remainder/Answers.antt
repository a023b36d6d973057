-- The goals of `remainder` that the check leaves open.
use Rattle.std.proofs.Common.{arith}
use Rattle.std.proofs.lemmas.Int.{to_z-of_z}
use Rattle.qil_ops.proofs.division.remainder.Goals as goal

pub returns-clause-value : goal.returns-clause-value
returns-clause-value c = grind (arith, to_z-of_z)
