-- What is kept of the machine is kept of the state now.
use Rattle.std.proofs.Common.{◌∙◌, ap, refl}
use Rattle.qil_semantics.specs.State.{State, is_final}
use Rattle.qil_state.specs.State.{state_of}
use Rattle.qil_compare.proofs.Walking.{kept_at}
use Rattle.qil_compare.proofs.running.before_moves.Goals as goal

pub kept_before-requires : goal.kept_before-requires
kept_before-requires g c = λ lifetimes. ((refl, tt), ap (λ (s : State). is_final s.status) c.is_read.ensures ∙ c.requires)

pub returns : goal.returns
returns g c =
    let w = g.R.Readers.whole c.args.side.now in
    kept_at w.program w.program (state_of w) (g.R.Forward.timeline c.args.side.now).now c.args.kinds c.kept_before.result refl c.is_read.ensures c.kept_before.ensures
