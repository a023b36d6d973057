-- The goals of `quotient_truncates` that the check leaves open.
use Rattle.qil_ops.proofs.WholeNumbers.{truncated}
use Rattle.qil_ops.proofs.laws.quotient_truncates.Goals as goal

pub returns : goal.returns
returns c = truncated
