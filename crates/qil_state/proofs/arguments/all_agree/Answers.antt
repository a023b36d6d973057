use Rattle.qil_state.proofs.Passing.{counts_differ}
use Rattle.qil_state.proofs.arguments.all_agree.Goals as goal

pub returns-then-params-args : goal.returns-then-params-args
returns-then-params-args c = counts_differ c.args.params.now c.args.args.now c.if-params-args.true
