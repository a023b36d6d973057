-- Both machines are in the states of their timelines.
use Rattle.std.proofs.Common.{subst}
use Rattle.qil_semantics.specs.State.{State}
use Rattle.qil_state.specs.State.{state_of}
use Rattle.qil_compare.specs.Answer.{Judges}
use Rattle.qil_compare.proofs.comparing.judge_here.Goals as goal

pub returns : goal.returns
returns g c =
    let m = g.R.Readers.whole c.args.good.now in
    let w = g.R.Readers.whole c.args.bad.now in
    subst (λ (s : State). Judges m.program w.program s (g.R.Forward.timeline c.args.bad.now).now c.args.one c.args.other c.judge.result) c.is_read.ensures
    (subst (λ (t : State). Judges m.program w.program (state_of m) t c.args.one c.args.other c.judge.result) c.is_read-2.ensures c.judge.ensures)
