-- By the moves.
use Rattle.qil_spans.proofs.Begins.{begun}
use Rattle.qil_spans.proofs.laws.a_frame_begins_behind_a_state_without_it.Goals as goal

pub returns : goal.returns
returns g c = begun
