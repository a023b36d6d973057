-- No object is another.
use Rattle.qil_shadow.proofs.CallLemmas.{live_held}
use Rattle.qil_shadow.proofs.calls.Calls.set.Goals as goal

pub invariant_of-self : goal.invariant_of-self
invariant_of-self g c = rw c.set.ensures (live_held _ _ _ _ _ c.self.invariant)
