-- The goals of `runs_on_to_target` that the check leaves open.
use Rattle.qil_semantics.proofs.stops.runs_on_to_target.Goals as goal
use Rattle.qil_semantics.proofs.OnLemmas.{on-target, target-on}

pub returns-clause-target : goal.returns-clause-target
returns-clause-target g c p stops limit t u r k l plain h = on-target p stops limit t u r k l plain h

pub returns-clause-run : goal.returns-clause-run
returns-clause-run g c p stops limit t r k l h = target-on p stops limit t r k l h
