-- A run is over unless it goes on.
use Rattle.qil_history.specs.qil_state.State.{head_names}
use Rattle.qil_stops.proofs.Telling.{over-by}
use Rattle.qil_stops.proofs.found.is_over.Goals as goal

pub returns : goal.returns
returns g c = over-by (head_names c.args.machine.now.program c.args.machine.now.frames) c.args.machine.now.status c.is_final.result c.is_final.ensures
