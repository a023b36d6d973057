-- What happened by the machine happened by the state now.
use Rattle.std.proofs.Common.{refl}
use Rattle.qil_state.specs.State.{state_of}
use Rattle.qil_compare.proofs.Walking.{happened_at}
use Rattle.qil_compare.proofs.running.happened_now.Goals as goal

pub returns : goal.returns
returns g c =
    let w = g.R.Readers.whole c.args.side.now in
    happened_at w.program w.program c.args.other.now (state_of w) (g.R.Forward.timeline c.args.side.now).now c.args.kinds c.args.before c.happened.result refl c.is_read.ensures c.happened.ensures
