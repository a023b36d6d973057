-- As many values, and each the same.
use Rattle.std.proofs.Common.{arith}
use Rattle.qil_state.specs.State.{state_of}
use Rattle.qil_compare.specs.Events.{call_params}
use Rattle.qil_compare.proofs.Sameness.{all_alike}
use Rattle.qil_compare.proofs.same.same_params.Goals as goal

pub loop-i-init : goal.loop-i-init
loop-i-init g c = λ j lt. absurd (omega (arith, lt))

pub returns : goal.returns
returns g c =
    all_alike (call_params (g.M.Readers.whole c.args.left.now).program (state_of (g.M.Readers.whole c.args.left.now)).frames) (call_params (g.M.Readers.whole c.args.right.now).program (state_of (g.M.Readers.whole c.args.right.now)).frames)
    c.param_count-count.result c.param_count.result c.loop-i.i c.param_count-count.ensures c.param_count.ensures c.if-count-param_count.false c.loop-i-test.false c.loop-i.invariant
