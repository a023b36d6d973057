-- A step adds a frame at most, and ends one at most.
use Rattle.qil_spans.proofs.Depths.{step_near}
use Rattle.qil_spans.proofs.laws.a_move_begins_or_ends_one_frame.Goals as goal

pub returns : goal.returns
returns g c = step_near
