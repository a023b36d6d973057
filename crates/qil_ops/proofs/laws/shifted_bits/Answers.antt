-- The goals of `shifted_bits` that the check leaves open.
use Rattle.qil_ops.proofs.Shifts.{sar_bits, shl_bits, shr_bits}
use Rattle.qil_ops.proofs.laws.shifted_bits.Goals as goal

pub returns-clause-shl : goal.returns-clause-shl
returns-clause-shl c = shl_bits

pub returns-clause-shr : goal.returns-clause-shr
returns-clause-shr c = shr_bits

pub returns-clause-sar : goal.returns-clause-sar
returns-clause-sar c = sar_bits
