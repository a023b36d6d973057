-- The goals of `back_undoes_forward` that the check leaves open.
use Rattle.qil_semantics.proofs.timeline.back_undoes_forward.Goals as goal
use Rattle.qil_semantics.specs.Step.{step_of}
use Rattle.qil_semantics.proofs.KeptLemmas.{back-to, undone-bounded}

pub returns-clause-step : goal.returns-clause-step
returns-clause-step g c p t h = back-to t (step_of p t.now) h

pub returns-clause-poke : goal.returns-clause-poke
returns-clause-poke g c s t h = back-to t s h

pub returns-clause-bounded : goal.returns-clause-bounded
returns-clause-bounded g c s t n h = undone-bounded s t n h
