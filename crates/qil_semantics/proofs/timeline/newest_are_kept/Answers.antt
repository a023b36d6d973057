-- The goals of `newest_are_kept` that the check leaves open.
use Rattle.qil_semantics.proofs.timeline.newest_are_kept.Goals as goal
use Rattle.qil_semantics.proofs.KeptLemmas.{states-unbounded, states-bounded}

pub returns-clause-all : goal.returns-clause-all
returns-clause-all c s t h = states-unbounded t s h

pub returns-clause-bounded : goal.returns-clause-bounded
returns-clause-bounded c s t n h = states-bounded t s n h
