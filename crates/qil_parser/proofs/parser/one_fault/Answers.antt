-- The goals of `one_fault` that the check leaves open.
use Rattle.qil_parser.proofs.Unique.{one_fault}
use Rattle.qil_parser.proofs.parser.one_fault.Goals as goal

pub returns : goal.returns
returns g c = λ ts c d k l x y. one_fault ts c d k l x y
