-- The goals of `bounds_stay` that the check leaves open.
use Rattle.qil_semantics.proofs.stops.bounds_stay.Goals as goal
use Rattle.qil_semantics.proofs.TargetLemmas.{end-stays, start-stays, oldest-stays}

pub returns-clause-end : goal.returns-clause-end
returns-clause-end g c p stops limit t u = end-stays p stops limit t u

pub returns-clause-start : goal.returns-clause-start
returns-clause-start g c stops limit t u = start-stays stops limit t u

pub returns-clause-oldest : goal.returns-clause-oldest
returns-clause-oldest g c stops limit t u = oldest-stays stops limit t u
