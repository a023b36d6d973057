-- All output that there is is told with such an event.
use Rattle.std.proofs.Common.{ap, length}
use Rattle.qil_state.specs.State.{state_of}
use Rattle.qil_compare.proofs.Happening.{plain_told}
use Rattle.qil_compare.proofs.happened.told.Goals as goal

pub returns : goal.returns
returns g c = λ kinds. plain_told (g.M.Readers.whole c.args.machine.now).program kinds (state_of (g.M.Readers.whole c.args.machine.now)) c.args.event _ (ap length c.output.ensures)
