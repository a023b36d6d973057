-- The goals of `runs_back_to_target` that the check leaves open.
use Rattle.qil_semantics.proofs.stops.runs_back_to_target.Goals as goal
use Rattle.qil_semantics.proofs.BackLemmas.{back-target, target-back}

pub returns-clause-target : goal.returns-clause-target
returns-clause-target c stops limit t u r k l h = back-target stops limit t u r k l h

pub returns-clause-run : goal.returns-clause-run
returns-clause-run c stops limit t r k l h = target-back stops limit t r k l h
