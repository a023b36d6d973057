-- The goals of `bounded_is_kept_end` that the check leaves open.
use Rattle.qil_semantics.proofs.timeline.bounded_is_kept_end.Goals as goal
use Rattle.qil_semantics.proofs.KeptLemmas.{kept-begun, kept-to, kept-back}

pub returns-clause-begins : goal.returns-clause-begins
returns-clause-begins c keeps s = kept-begun keeps s

pub returns-clause-moves : goal.returns-clause-moves
returns-clause-moves c t u s h k = kept-to t u s h k

pub returns-clause-goes_back : goal.returns-clause-goes_back
returns-clause-goes_back c t u v k b = kept-back t u v k b
