-- The machine is in the state of the timeline.
use Rattle.std.proofs.Common.{◌∙◌, ap}
use Rattle.qil_semantics.specs.State.{State, is_final}
use Rattle.qil_compare.proofs.running.is_at_end.Goals as goal

pub returns : goal.returns
returns g c = c.is_over.ensures ∙ ap (λ (s : State). is_final s.status) c.is_read.ensures
