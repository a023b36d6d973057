-- A machine's frames are those of the state that it represents.
use Rattle.std.proofs.Common.{◌∙◌, ap, length}
use Rattle.std.proofs.lemmas.List.{length-reverse}
use Rattle.qil_semantics.specs.State.{State}
use Rattle.qil_stops.proofs.Walking.{as_many}
use Rattle.qil_stops.proofs.depth_running.depth.Goals as goal

pub returns : goal.returns
returns g c =
    let w = c.machine_of.result.now in
    ap length c.frames.ensures.value ∙ length-reverse w.frames ∙ as_many w.program w.frames ∙ ap (λ (s : State). length s.frames) c.machine_of.ensures.now
