-- The goals of `final_states_stay` that the check leaves open.
use Rattle.qil_semantics.proofs.laws.final_states_stay.Goals as goal
use Rattle.qil_semantics.proofs.MoveLemmas.{forward_by-final}
use Rattle.qil_semantics.proofs.FaultLemmas.{no_frame_stays}

pub returns-clause-forward : goal.returns-clause-forward
returns-clause-forward g c p n t h = forward_by-final p n t h

pub returns-clause-no_frame : goal.returns-clause-no_frame
returns-clause-no_frame g c p s h = no_frame_stays p s h
