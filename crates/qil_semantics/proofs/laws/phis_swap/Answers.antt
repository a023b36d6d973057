-- The goals of `phis_swap` that the check leaves open.
use Rattle.qil_semantics.proofs.laws.phis_swap.Goals as goal
use Rattle.qil_semantics.proofs.PhiLemmas.{swaps}

pub returns : goal.returns
returns g c p f k a b x y h d e = swaps p f k a b x y h d e
