-- A run is over unless it goes on.
use Rattle.qil_state.specs.State.{head_names}
use Rattle.qil_stops.proofs.Telling.{over-by}
use Rattle.qil_session.proofs.moves.is_over.Goals as goal

pub returns : goal.returns
returns g c = over-by (head_names (g.M.Readers.whole c.args.machine.now).program (g.M.Readers.whole c.args.machine.now).frames) (g.M.Readers.whole c.args.machine.now).status c.is_final.result c.is_final.ensures
