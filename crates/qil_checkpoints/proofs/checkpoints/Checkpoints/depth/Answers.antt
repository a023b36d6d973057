-- A machine has as many frames as calls are open.
use Rattle.std.proofs.Common.{◌∙◌, ap, length}
use Rattle.qil_semantics.specs.State.{State}
use Rattle.qil_stops.proofs.Walking.{as_many}
use Rattle.qil_checkpoints.proofs.checkpoints.Checkpoints.depth.Goals as goal

pub returns : goal.returns
returns g c =
    let w = g.M.Readers.whole c.reader.result.now in
    c.depth.ensures ∙ as_many w.program w.frames ∙ ap (λ (s : State). length s.frames) c.reader.ensures.now
