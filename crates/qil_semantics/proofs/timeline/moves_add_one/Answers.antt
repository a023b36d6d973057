-- The goals of `moves_add_one` that the check leaves open.
use Rattle.qil_semantics.proofs.timeline.moves_add_one.Goals as goal
use Rattle.qil_semantics.proofs.KeptLemmas.{position-to}

pub returns : goal.returns
returns c s t = position-to t s
