-- The run is over where the machine's is.
use Rattle.std.proofs.Common.{◌∙◌, ap}
use Rattle.qil_semantics.specs.State.{State, is_final}
use Rattle.qil_session.proofs.accessing.is_at_end.Goals as goal

pub returns : goal.returns
returns g c = c.is_over.ensures ∙ ap (λ (s : State). is_final s.status) c.machine.ensures.now
