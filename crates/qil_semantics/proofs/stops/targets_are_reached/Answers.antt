-- The goals of `targets_are_reached` that the check leaves open.
use Rattle.qil_semantics.proofs.stops.targets_are_reached.Goals as goal
use Rattle.qil_semantics.proofs.LeastLemmas.{reaches_on, reaches_back}

pub returns-clause-forward : goal.returns-clause-forward
returns-clause-forward g c p stops limit t l = reaches_on p stops limit t l

pub returns-clause-back : goal.returns-clause-back
returns-clause-back g c stops limit t l = reaches_back stops limit t l
