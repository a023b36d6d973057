-- Nothing is on the stack.
use Rattle.qil_shadow.proofs.CallLemmas.{live_none, none_of_stack}
use Rattle.qil_shadow.proofs.calls.Calls.new.Goals as goal

pub invariant_of-result : goal.invariant_of-result
invariant_of-result g c = live_none _ _ _ c.requires.few (none_of_stack c.args.objects c.requires.fixed)
