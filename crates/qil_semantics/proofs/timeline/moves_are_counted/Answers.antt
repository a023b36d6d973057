-- The goals of `moves_are_counted` that the check leaves open.
use Rattle.qil_semantics.proofs.timeline.moves_are_counted.Goals as goal
use Rattle.qil_semantics.proofs.MoveLemmas.{goes-forward_by, goes-back_by}

pub returns-clause-forward : goal.returns-clause-forward
returns-clause-forward g c p n t = goes-forward_by p n t

pub returns-clause-back : goal.returns-clause-back
returns-clause-back g c n t = goes-back_by n t
