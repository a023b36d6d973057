-- The goals of `one_target` that the check leaves open.
use Rattle.qil_semantics.proofs.stops.one_target.Goals as goal
use Rattle.qil_semantics.proofs.TargetLemmas.{one_forward, one_back}

pub returns-clause-forward : goal.returns-clause-forward
returns-clause-forward g c p stops limit s j i r q t u = one_forward p stops limit s j i r q t u

pub returns-clause-back : goal.returns-clause-back
returns-clause-back g c stops limit t j i r q x y = one_back stops limit t j i r q x y
