-- A run is over unless it goes on.
use Rattle.qil_state.specs.State.{head_names}
use Rattle.qil_compare.proofs.Happening.{over_by}
use Rattle.qil_compare.proofs.happened.is_over.Goals as goal

pub returns : goal.returns
returns g c = over_by (head_names (g.M.Readers.whole c.args.machine.now).program (g.M.Readers.whole c.args.machine.now).frames) (g.M.Readers.whole c.args.machine.now).status c.is_final.result c.is_final.ensures
