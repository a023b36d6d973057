-- The values so far are the same.
use Rattle.qil_state.specs.State.{state_of}
use Rattle.qil_compare.specs.Events.{call_params}
use Rattle.qil_compare.proofs.Sameness.{AreAlike}
use Rattle.qil_compare.proofs.same.same_params.Given as goal

abbrev pub invariant-loop-i : goal.invariant-loop-i
invariant-loop-i g l = AreAlike (call_params (g.M.Readers.whole l.left).program (state_of (g.M.Readers.whole l.left)).frames) (call_params (g.M.Readers.whole l.right).program (state_of (g.M.Readers.whole l.right)).frames) l.i
