-- The function of the innermost frame.
use Rattle.std.proofs.Common.{arith}
use Rattle.qil_state.specs.State.{state_of}
use Rattle.qil_spans.proofs.Functions.{innermost_is}
use Rattle.qil_spans.proofs.here.look.Goals as goal

pub returns-clause-func : goal.returns-clause-func
returns-clause-func g c = innermost_is (g.M.Readers.whole c.args.machine.now).program (state_of (g.M.Readers.whole c.args.machine.now)) c.func_of.result c.func_of.ensures.number
